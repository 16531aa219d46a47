-- Which places have a node with a given kind of payload and number of children (this project).
use Rattle.std.specs.Prelude.{ℕ, ◌==◌, ◌||◌, Bool}

unfoldable pub is_plain_leaf : ℕ → Bool
is_plain_leaf place = place == 0 || place == 1 || place == 2 || place == 3 || place == 4 || place == 12

unfoldable pub is_plain_one : ℕ → Bool
is_plain_one place = place == 5 || place == 6 || place == 7 || place == 8 || place == 9 || place == 10 || place == 14 || place == 181

unfoldable pub is_index_leaf : ℕ → Bool
is_index_leaf place = place == 16 || place == 19 || place == 46 || place == 182 || place == 192 || place == 196 || place == 199

unfoldable pub is_index_one : ℕ → Bool
is_index_one place = place == 17 || place == 18 || place == 20 || place == 21 || place == 47

unfoldable pub is_index_two : ℕ → Bool
is_index_two place = place == 22 || place == 198

unfoldable pub is_index_three : ℕ → Bool
is_index_three place = place == 194 || place == 200

unfoldable pub is_memory_one : ℕ → Bool
is_memory_one place = place == 23 || place == 24 || place == 25 || place == 26 || place == 27 || place == 28 || place == 29 || place == 30
    || place == 31 || place == 32 || place == 33 || place == 34 || place == 35 || place == 36

unfoldable pub is_memory_two : ℕ → Bool
is_memory_two place = place == 37 || place == 38 || place == 39 || place == 40 || place == 41 || place == 42 || place == 43 || place == 44 || place == 45
