-- Which places have a numeric node with a given number of children (this project); none has a payload.
use Rattle.std.specs.Prelude.{ℕ, ◌==◌, ◌||◌, Bool, false, if◌then◌else◌}

unfoldable pub is_numeric_plain_one_to_171 : ℕ → Bool
is_numeric_plain_one_to_171 place = place == 52 || place == 63 || place == 86 || place == 87 || place == 88 || place == 104 || place == 105
    || place == 106 || place == 122 || place == 123 || place == 124 || place == 125 || place == 126 || place == 127 || place == 128 || place == 136
    || place == 137 || place == 138 || place == 139 || place == 140 || place == 141 || place == 142 || place == 150 || place == 151 || place == 152
    || place == 153 || place == 154 || place == 155 || place == 156 || place == 157 || place == 158 || place == 159 || place == 160 || place == 161
    || place == 162 || place == 163 || place == 164 || place == 165 || place == 166 || place == 167 || place == 168 || place == 169 || place == 170
    || place == 171

unfoldable pub is_numeric_plain_one_from_172 : ℕ → Bool
is_numeric_plain_one_from_172 place = place == 172 || place == 173 || place == 174 || place == 175 || place == 176 || place == 177 || place == 178
    || place == 179 || place == 183 || place == 184 || place == 185 || place == 186 || place == 187 || place == 188 || place == 189 || place == 190

unfoldable pub is_numeric_plain_two_to_100 : ℕ → Bool
is_numeric_plain_two_to_100 place = place == 53 || place == 54 || place == 55 || place == 56 || place == 57 || place == 58 || place == 59
    || place == 60 || place == 61 || place == 62 || place == 64 || place == 65 || place == 66 || place == 67 || place == 68 || place == 69
    || place == 70 || place == 71 || place == 72 || place == 73 || place == 74 || place == 75 || place == 76 || place == 77 || place == 78
    || place == 79 || place == 80 || place == 81 || place == 82 || place == 83 || place == 84 || place == 85 || place == 89 || place == 90
    || place == 91 || place == 92 || place == 93 || place == 94 || place == 95 || place == 96 || place == 97 || place == 98 || place == 99 || place == 100

unfoldable pub is_numeric_plain_two_from_101 : ℕ → Bool
is_numeric_plain_two_from_101 place = place == 101 || place == 102 || place == 103 || place == 107 || place == 108 || place == 109 || place == 110
    || place == 111 || place == 112 || place == 113 || place == 114 || place == 115 || place == 116 || place == 117 || place == 118 || place == 119
    || place == 120 || place == 121 || place == 129 || place == 130 || place == 131 || place == 132 || place == 133 || place == 134 || place == 135
    || place == 143 || place == 144 || place == 145 || place == 146 || place == 147 || place == 148 || place == 149

-- the place has a numeric node with that many children
abbrev pub is_numeric_node : ℕ → ℕ → Bool
is_numeric_node place count =
    if count == 2 then is_numeric_plain_two_to_100 place || is_numeric_plain_two_from_101 place else
    if count == 1 then is_numeric_plain_one_to_171 place || is_numeric_plain_one_from_172 place else false
