-- The code section with one body written anew: its entries, and what they contain.
use Rattle.std.proofs.Common.{◌≡◌, ℕ, ◌+◌, ◌-◌, ◌≤◌, List, [], ◌∷◌, ◌++◌, length, Some, refl, sym, ap, ap₂, subst, ◌∙◌, append_assoc, arith}
use Rattle.std.specs.Prelude.{map, slice_get, slice_range}
use Rattle.std.proofs.lemmas.List.{length-append}
use Rattle.wasm_code.specs.Number.{SpellsUnsigned}
use Rattle.wasm_code.specs.Code.{shortest}
use Rattle.wasm_sections.specs.declared.section.Section.{Section}
use Rattle.wasm_sections.specs.lemmas.PieceLemmas.{range_is}
use Rattle.wasm_lists.specs.declared.entries.Entry.{Entry}
use Rattle.wasm_lists.specs.Entries.{entries_from, SpellsEntries}
use Rattle.wasm_module.specs.Moved.{moved, AreMoved}
use Rattle.wasm_module.specs.Reread.{HasContents}
use Rattle.wasm_module.proofs.BodyLemmas.{Body, glued, AreSized, sizes_of, bodies_in, bodies_spell, entry_at, placed, glued_length, cut}
use Rattle.wasm_module.proofs.BodyLemmas.{glued-append, contents_are, has_contents, glued_in}

-- ---- one body written anew

tails : (b c : Body) (bs cs : List Body) → b ∷ bs ≡ c ∷ cs → (b ≡ c) × (bs ≡ cs)
tails b c bs cs e = (cc, cc)

-- a body that stands elsewhere is there as before
record IsThere (bs : List Body) (k : ℕ) (b : Body) : Type 0 where
  before : List Body
  behind : List Body
  parts : bs ≡ before ++ b ∷ behind
  at : k ≡ length before

other_there : (before u : List Body) (b new q : Body) (behind w : List Body) → before ++ b ∷ behind ≡ u ++ q ∷ w → (length u ≡ length before → ⊥) →
    IsThere (before ++ new ∷ behind) (length u) q
other_there [] [] b new q behind w e differ = absurd (differ refl)
other_there [] (x ∷ u) b new q behind w e differ = record {
  before = new ∷ u;
  behind = w;
  parts = ap (λ (l : List Body). new ∷ l) (tails b x behind (u ++ q ∷ w) e).1;
  at = refl;
}
other_there (y ∷ before) [] b new q behind w e differ = record {
  before = [];
  behind = before ++ new ∷ behind;
  parts = ap (λ (z : Body). z ∷ (before ++ new ∷ behind)) (tails y q (before ++ b ∷ behind) w e).0;
  at = refl;
}
other_there (y ∷ before) (x ∷ u) b new q behind w e differ =
    let r = other_there before u b new q behind w (tails y x (before ++ b ∷ behind) (u ++ q ∷ w) e).1 (λ same. differ (omega arith)) in
    record { before = y ∷ r.before; behind = r.behind; parts = ap (λ (l : List Body). y ∷ l) r.parts; at = omega (arith, r.at) }

entries_length : (bs : List Body) (start : ℕ) → length (placed start bs) ≡ length bs
entries_length [] start = refl
entries_length (b ∷ bs) start = let less = entries_length bs (start + length b.size + length b.contents) in omega (arith, less)

sized_with : (before behind : List Body) (b new : Body) → SpellsUnsigned 32 new.size (length new.contents) → AreSized (before ++ b ∷ behind) →
    AreSized (before ++ new ∷ behind)
sized_with [] behind b new counts s = (counts, s.1)
sized_with (x ∷ before) behind b new counts s = (s.0, sized_with before behind b new counts s.1)

-- ---- the code section with other contents of an entry

abbrev pub text_with : (bytes : List ℕ) (start : ℕ) (entry : Entry) (end : ℕ) (contents : List ℕ) → List ℕ
text_with bytes start entry end contents =
    slice_range bytes start entry.start ++ shortest (length contents) ++ contents ++ slice_range bytes entry.end end

-- ---- entries elsewhere

entry_is : (start start' contents contents' end end' : ℕ) → start ≡ start' → contents ≡ contents' → end ≡ end' →
    ◌≡◌ {A = Entry} (record { start = start; contents = contents; end = end }) (record { start = start'; contents = contents'; end = end' })
entry_is start start' contents contents' end end' p q r =
    ap (λ (m : ℕ). record { start = m; contents = contents; end = end }) p ∙ ap (λ (m : ℕ). record { start = start'; contents = m; end = end }) q
    ∙ ap (λ (m : ℕ). record { start = start'; contents = contents'; end = m }) r

moved_placed : (bs : List Body) (start from to : ℕ) → from ≤ start → map (moved from to) (placed start bs) ≡ placed (to + (start - from)) bs
moved_placed [] start from to le = refl
moved_placed (b ∷ bs) start from to le =
    let rest = moved_placed bs (start + length b.size + length b.contents) from to (omega (arith, le)) in
    let next : to + (start + length b.size + length b.contents - from) ≡ to + (start - from) + length b.size + length b.contents = omega (arith, le) in
    ap₂ (λ (e : Entry) (es : List Entry). e ∷ es) (entry_is _ _ _ _ _ _ refl (omega (arith, le)) (omega (arith, le)))
    (rest ∙ ap (λ (m : ℕ). placed m bs) next)

placed-append : (before behind : List Body) (start : ℕ) →
    placed start (before ++ behind) ≡ placed start before ++ placed (start + length (glued before)) behind
placed-append [] behind start = ap (λ (m : ℕ). placed m behind) (omega arith)
placed-append (x ∷ before) behind start =
    let end : ℕ = start + length x.size + length x.contents in
    ap (λ (es : List Entry). entry_at start x ∷ es)
    (placed-append before behind end ∙ ap (λ (m : ℕ). placed end before ++ placed m behind) (glued_length start x before))

-- the entries of the text, whose first byte has the offset `start`; those of the old one began at `from`, and it ended at `end`
pub record AreEntriesAgain (bytes : List ℕ) (entries : List Entry) (n from end : ℕ) (contents new text : List ℕ) (start : ℕ) : Type 0 where
  pub entries_again : List Entry
  pub spells : SpellsEntries start text entries_again
  pub move : (code place : Section) → code.contents ≡ from → code.end ≡ end → place.contents ≡ start → place.end ≡ start + length text →
      AreMoved entries n contents code place new entries_again
  pub count : length entries_again ≡ length entries
  pub entry : HasContents new entries_again n contents
  pub others : (k : ℕ) (old : Entry) → (k ≡ n → ⊥) → slice_get entries k ≡ Some old →
      HasContents new entries_again k (slice_range bytes old.contents old.end)

-- the bodies from one on, joined
tail_length : (before behind : List Body) (b : Body) →
    length (glued (before ++ b ∷ behind)) ≡ length (glued before) + (length b.size + (length b.contents + length (glued behind)))
tail_length before behind b = omega (
  arith,
  ap length (glued-append before (b ∷ behind)),
  length-append (glued before) (glued (b ∷ behind)),
  length-append b.size (b.contents ++ glued behind),
  length-append b.contents (glued behind),
)

text_is : (bytes pre post count text : List ℕ) (start : ℕ) (before behind : List Body) (b : Body) (entry : Entry) (contents : List ℕ) →
    bytes ≡ pre ++ (text ++ post) → length pre ≡ start → text ≡ count ++ glued (before ++ b ∷ behind)
    → entry ≡ entry_at (start + length count + length (glued before)) b
    → text_with bytes start entry (start + length text) contents
    ≡ count ++ glued (before ++ record { size = shortest (length contents); contents = contents } ∷ behind)
text_is bytes pre post count text start before behind b entry contents e f t is =
    let size = shortest (length contents) in
    let new : Body = record { size = size; contents = contents } in
    let whole : bytes ≡ pre ++ ((count ++ (glued before ++ (b.size ++ (b.contents ++ glued behind)))) ++ post) = e
    ∙ ap (λ (l : List ℕ). pre ++ (l ++ post)) (t ∙ ap (λ (l : List ℕ). count ++ l) (glued-append before (b ∷ behind))) in
    let one : bytes ≡ pre ++ ((count ++ glued before) ++ ((b.size ++ (b.contents ++ glued behind)) ++ post)) = whole ∙ simp append_assoc in
    let two : bytes ≡ ((((pre ++ count) ++ glued before) ++ b.size) ++ b.contents) ++ (glued behind ++ post) = whole ∙ simp append_assoc in
    let start_is : entry.start ≡ start + length count + length (glued before) = ap (λ (x : Entry). x.start) is in
    let end_is : entry.end ≡ start + length count + length (glued before) + length b.size + length b.contents = ap (λ (x : Entry). x.end) is in
    let long = length-append count (glued (before ++ b ∷ behind)) in
    let inner = tail_length before behind b in
    let front : slice_range bytes start entry.start ≡ count ++ glued before = range_is bytes pre (count ++ glued before)
    ((b.size ++ (b.contents ++ glued behind)) ++ post) start entry.start one f (omega (arith, start_is, length-append count (glued before))) in
    let front_len : length ((((pre ++ count) ++ glued before) ++ b.size) ++ b.contents) ≡ entry.end = omega (
      arith,
      end_is,
      f,
      length-append (((pre ++ count) ++ glued before) ++ b.size) b.contents,
      length-append ((pre ++ count) ++ glued before) b.size,
      length-append (pre ++ count) (glued before),
      length-append pre count,
    ) in
    let back : slice_range bytes entry.end (start + length text) ≡ glued behind = range_is bytes
    ((((pre ++ count) ++ glued before) ++ b.size) ++ b.contents) (glued behind) post entry.end (start + length text) two front_len
    (omega (arith, end_is, ap length t, long, inner)) in
    ap (λ (l : List ℕ). l ++ size ++ contents ++ slice_range bytes entry.end (start + length text)) front
    ∙ ap (λ (l : List ℕ). (count ++ glued before) ++ size ++ contents ++ l) back
    ∙ assoc5 count (glued before) size contents (glued behind)
    ∙ ap (λ (l : List ℕ). count ++ l) (sym (glued-append before (new ∷ behind)))
  where
    assoc5 : (a b c d e : List ℕ) → (((a ++ b) ++ c) ++ d) ++ e ≡ a ++ (b ++ (c ++ (d ++ e)))
    assoc5 a b c d e = simp append_assoc

moved_bodies : (new pre post text count : List ℕ) (start start' : ℕ) (before behind : List Body) (b : Body) (entries : List Entry) (n : ℕ)
    (contents : List ℕ) → entries ≡ placed (start + length count) (before ++ b ∷ behind) → n ≡ length before → new ≡ pre ++ (text ++ post) → length pre ≡ start'
    → text ≡ count ++ glued (before ++ record { size = shortest (length contents); contents = contents } ∷ behind)
    → (code place : Section) → code.contents ≡ start → code.end ≡ start + length (count ++ glued (before ++ b ∷ behind)) → place.contents ≡ start'
    → place.end ≡ start' + length text
    → AreMoved entries n contents code place new
    (placed (start' + length count) (before ++ record { size = shortest (length contents); contents = contents } ∷ behind))
moved_bodies new pre post text count start start' before behind b entries n contents is at e f t code place code_at code_to place_at place_to =
    let x : Body = record { size = shortest (length contents); contents = contents } in
    let from : ℕ = start + length count in
    let to : ℕ = start' + length count in
    let old = entry_at (from + length (glued before)) b in
    let here = entry_at (to + length (glued before)) x in
    let was = placed from before in
    let front : map (moved code.contents place.contents) was ≡ placed to before =
    moved_placed before from code.contents place.contents (omega (arith, code_at))
    ∙ ap (λ (m : ℕ). placed m before) (omega (arith, code_at, place_at)) in
    let back : map (moved old.end here.end) (placed old.end behind) ≡ placed here.end behind =
    moved_placed behind old.end old.end here.end (omega arith) ∙ ap (λ (m : ℕ). placed m behind) (omega arith) in
    let whole : new ≡ ((pre ++ count) ++ glued before) ++ ((x.size ++ x.contents) ++ (glued behind ++ post)) = glued_in new pre post text count
    (before ++ x ∷ behind) e t
    ∙ ap (λ (l : List ℕ). (pre ++ count) ++ (l ++ post)) (glued-append before (x ∷ behind)) ∙ simp append_assoc in
    record {
      before = was;
      old = old;
      behind = placed old.end behind;
      here = here;
      entries_are = is ∙ placed-append before (b ∷ behind) from;
      at = at ∙ sym (entries_length before from);
      again_are = placed-append before (x ∷ behind) to
          ∙ ap₂ (λ (us ws : List Entry). us ++ here ∷ ws) (sym front) (sym back);
      starts = omega (arith, code_at, place_at);
      ends = omega (
        arith,
        code_to,
        place_to,
        ap length t,
        length-append count (glued (before ++ b ∷ behind)),
        length-append count (glued (before ++ x ∷ behind)),
        tail_length before behind b,
        tail_length before behind x,
      );
      contents_at = refl;
      spelled = range_is new ((pre ++ count) ++ glued before) (x.size ++ x.contents) (glued behind ++ post) here.start here.end whole
          (omega (arith, f, length-append (pre ++ count) (glued before), length-append pre count)) (omega (arith, length-append x.size x.contents));
    }

pub entries_again : (bytes pre post text new pre' post' : List ℕ) (start start' n : ℕ) (entries : List Entry) (entry : Entry) (contents : List ℕ) →
    bytes ≡ pre ++ (text ++ post) → length pre ≡ start → SpellsEntries start text entries → slice_get entries n ≡ Some entry
    → new ≡ pre' ++ (text_with bytes start entry (start + length text) contents ++ post') → length pre' ≡ start'
    → SpellsUnsigned 32 (shortest (length contents)) (length contents)
    → AreEntriesAgain bytes entries n start (start + length text) contents new (text_with bytes start entry (start + length text) contents) start'
entries_again bytes pre post text new pre' post' start start' n entries entry contents e f s at e' f' counts =
    let l = s.list in
    let v = bodies_in l.value l.back s.sizes l.second in
    let from : ℕ = start + length l.front in
    let placed_is : entries ≡ placed from v.bodies = s.placed ∙ ap (entries_from from) v.sizes_are in
    let c = cut v.bodies from n entry (ap (λ (es : List Entry). slice_get es n) (sym placed_is) ∙ at) in
    let b : Body = record { size = shortest (length contents); contents = contents } in
    let bodies = c.before ++ b ∷ c.behind in
    let text_parts : text ≡ l.front ++ glued (c.before ++ c.body ∷ c.behind) = l.parts ∙ ap (λ (t : List ℕ). l.front ++ t) v.text_is
    ∙ ap (λ (bs : List Body). l.front ++ glued bs) c.parts in
    let with_is = text_is bytes pre post l.front text start c.before c.behind c.body entry contents e f text_parts c.is in
    let old_bytes = glued_in bytes pre post text l.front v.bodies e (l.parts ∙ ap (λ (t : List ℕ). l.front ++ t) v.text_is) in
    let new_bytes = glued_in new pre' post' (text_with bytes start entry (start + length text) contents) l.front bodies e' with_is in
    let old_len : length (pre ++ l.front) ≡ from = omega (arith, length-append pre l.front, f) in
    let new_len : length (pre' ++ l.front) ≡ start' + length l.front = omega (arith, length-append pre' l.front, f') in
    let same_count : length bodies ≡ length v.bodies = omega (
      arith,
      ap length c.parts,
      length-append c.before (c.body ∷ c.behind),
      length-append c.before (b ∷ c.behind),
    ) in
    record {
      entries_again = placed (start' + length l.front) bodies;
      spells = record {
        sizes = sizes_of bodies;
        list = record {
          value = length bodies;
          front = l.front;
          back = glued bodies;
          parts = with_is;
          first = subst (SpellsUnsigned 32 l.front) (v.counted ∙ sym same_count) l.first;
          second = bodies_spell bodies (sized_with c.before c.behind c.body b counts (subst AreSized c.parts v.sized));
        };
        placed = refl;
      };
      move = λ code place code_at code_to.
          moved_bodies new pre' post' (text_with bytes start entry (start + length text) contents) l.front start start' c.before c.behind c.body entries n
          contents (placed_is ∙ ap (placed from) c.parts) c.at e' f' with_is code place code_at
          (code_to ∙ ap (λ (t : List ℕ). start + length t) text_parts);
      count = entries_length bodies (start' + length l.front) ∙ same_count ∙ sym (entries_length v.bodies from) ∙ ap length (sym placed_is);
      entry = has_contents new (pre' ++ l.front) post' (start' + length l.front) c.before c.behind b bodies n refl c.at new_bytes new_len;
      others = λ k old differ there.
          let d = cut v.bodies from k old (ap (λ (es : List Entry). slice_get es k) (sym placed_is) ∙ there) in
          let o = other_there c.before d.before c.body b d.body c.behind d.behind (sym c.parts ∙ d.parts)
          (λ same. differ (omega (arith, same, c.at, d.at))) in
          let here = has_contents new (pre' ++ l.front) post' (start' + length l.front) o.before o.behind d.body bodies k o.parts
          (omega (arith, o.at, d.at)) new_bytes new_len in
          let was : slice_range bytes old.contents old.end ≡ d.body.contents = ap (λ (x : Entry). slice_range bytes x.contents x.end) d.is
          ∙ contents_are bytes (pre ++ l.front) post from d.before d.behind d.body
          (old_bytes ∙ ap (λ (bs : List Body). (pre ++ l.front) ++ (glued bs ++ post)) d.parts) old_len in
          subst (HasContents new (placed (start' + length l.front) bodies) k) (sym was) here;
    }

-- ---- the code section elsewhere

-- the entries of the text where its first byte has that offset, each of which contains what it contained
pub record AreEntriesMoved (bytes : List ℕ) (entries : List Entry) (new text : List ℕ) (start : ℕ) : Type 0 where
  pub moved : List Entry
  pub spells : SpellsEntries start text moved
  pub count : length moved ≡ length entries
  pub each : (k : ℕ) (old : Entry) → slice_get entries k ≡ Some old → HasContents new moved k (slice_range bytes old.contents old.end)

pub entries_moved : (bytes pre post text new pre' post' : List ℕ) (start start' : ℕ) (entries : List Entry) → bytes ≡ pre ++ (text ++ post) →
    length pre ≡ start → SpellsEntries start text entries → new ≡ pre' ++ (text ++ post') → length pre' ≡ start'
    → AreEntriesMoved bytes entries new text start'
entries_moved bytes pre post text new pre' post' start start' entries e f s e' f' =
    let l = s.list in
    let v = bodies_in l.value l.back s.sizes l.second in
    let from : ℕ = start + length l.front in
    let to : ℕ = start' + length l.front in
    let placed_is : entries ≡ placed from v.bodies = s.placed ∙ ap (entries_from from) v.sizes_are in
    let text_is : text ≡ l.front ++ glued v.bodies = l.parts ∙ ap (λ (t : List ℕ). l.front ++ t) v.text_is in
    let old_bytes = glued_in bytes pre post text l.front v.bodies e text_is in
    let new_bytes = glued_in new pre' post' text l.front v.bodies e' text_is in
    let old_len : length (pre ++ l.front) ≡ from = omega (arith, length-append pre l.front, f) in
    let new_len : length (pre' ++ l.front) ≡ to = omega (arith, length-append pre' l.front, f') in
    record {
      moved = placed to v.bodies;
      spells = record { sizes = s.sizes; list = l; placed = ap (entries_from to) (sym v.sizes_are) };
      count = entries_length v.bodies to ∙ sym (entries_length v.bodies from) ∙ ap length (sym placed_is);
      each = λ k old there.
          let d = cut v.bodies from k old (ap (λ (es : List Entry). slice_get es k) (sym placed_is) ∙ there) in
          let here = has_contents new (pre' ++ l.front) post' to d.before d.behind d.body v.bodies k d.parts d.at new_bytes new_len in
          let was : slice_range bytes old.contents old.end ≡ d.body.contents = ap (λ (x : Entry). slice_range bytes x.contents x.end) d.is
          ∙ contents_are bytes (pre ++ l.front) post from d.before d.behind d.body
          (old_bytes ∙ ap (λ (bs : List Body). (pre ++ l.front) ++ (glued bs ++ post)) d.parts) old_len in
          subst (HasContents new (placed to v.bodies) k) (sym was) here;
    }
