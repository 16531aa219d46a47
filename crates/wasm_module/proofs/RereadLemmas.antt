-- The new bytes are a module again, with the globals behind the old ones and one code entry of other contents.
use Rattle.std.proofs.Common.{◌≡◌, ℕ, ◌+◌, ◌<◌, true, List, [], ◌∷◌, ◌++◌, length, Option, None, refl, sym, ap, subst, ◌∙◌, append_assoc, arith}
use Rattle.std.specs.Prelude.{map}
use Rattle.wasm_code.specs.Number.{SpellsUnsigned}
use Rattle.wasm_types.specs.Module.{Module, merged}
use Rattle.wasm_types.specs.declared.types.PrimitiveTypeInfo.{PrimitiveTypeInfo}
use Rattle.wasm_sections.specs.declared.id.SectionId.{SectionId}
use Rattle.wasm_sections.specs.declared.id.SectionId.TheVariants as ids
use Rattle.wasm_sections.specs.declared.section.Section.{Section}
use Rattle.wasm_sections.specs.declared.fault.ModuleError.{ModuleError}
use Rattle.wasm_sections.specs.Id.{rank_of}
use Rattle.wasm_sections.specs.Section.{SpellsModule, preamble, section_parts_of}
use Rattle.wasm_sections.specs.Find.{IsFirstWith}
use Rattle.wasm_sections.specs.lemmas.PieceLemmas.{Piece, joined, AreSorted, contents_at, placed, all_placed, parts, of_pieces, module_parts}
use Rattle.wasm_lists.specs.Known.{nothing_listed, SpellsKnown}
use Rattle.wasm_lists.specs.List.{SpellsList}
use Rattle.wasm_lists.specs.Types.{SpellsTypeGroup, FailsTypeGroup}
use Rattle.wasm_lists.specs.Imports.{SpellsImport, FailsImport}
use Rattle.wasm_lists.specs.Tables.{SpellsTable, FailsTable, SpellsMemoryType, FailsMemoryType}
use Rattle.wasm_lists.specs.Globals.{SpellsGlobal, FailsGlobal}
use Rattle.wasm_lists.specs.Entries.{SpellsEntries}
use Rattle.wasm_module.specs.Module.{Layout, Holds, Lists, space, globals_of, IsModule}
use Rattle.wasm_module.specs.Rewritten.{code_section_with, IsRewritten}
use Rattle.wasm_module.specs.Moved.{AreMoved}
use Rattle.wasm_module.specs.Reread.{IsReread}
use Rattle.wasm_module.proofs.PieceLemmas.{written}
use Rattle.wasm_module.proofs.AgainLemmas.{Short}
use Rattle.wasm_module.proofs.AgainPieces.{ArePiecesAgain, AreSome, pieces_again, is_placed}
use Rattle.wasm_module.proofs.RewrittenBody.{AreEntriesAgain, text_with, entries_again}
use Rattle.wasm_module.proofs.FindLemmas.{first_unique}
use Rattle.wasm_module.proofs.HeldLemmas.{HeldBy, LackPiece, held, holds, held_before, held_at, held_there, lacks_before, first_placed}
use Rattle.wasm_module.proofs.NewGlobalLemmas.{grown}

wider_space : {A : Type 0} (all imported own more : List A) (o : Option ModuleError) → o ≡ None → all ≡ space imported o own →
    all ++ more ≡ space imported o (own ++ more)
wider_space {A} all imported own more o e is =
    ap (λ (l : List A). l ++ more) (is ∙ ap (λ (p : Option ModuleError). space imported p own) e) ∙ append_assoc imported own more
    ∙ ap (λ (p : Option ModuleError). space imported p (own ++ more)) (sym e)

module _ (bytes : List ℕ) (sections : List Section) (own : ℕ) (more : List PrimitiveTypeInfo) (code : Section) (c new : List ℕ)
    (k : ArePiecesAgain bytes sections own more code c new) where
  abbrev was : List Piece
  was = k.first ++ (k.old ++ k.x ∷ k.second)

  abbrev now : List Piece
  now = k.first ++ (k.fresh ++ written ids.Code c ∷ k.second)

  was_parts : section_parts_of bytes (all_placed 8 was) ≡ parts was
  was_parts = module_parts bytes was k.bytes_are

  now_parts : section_parts_of new (all_placed 8 now) ≡ parts now
  now_parts = module_parts new now k.new_is.spelled

  spells : SpellsModule new (all_placed 8 now)
  spells =
      let w = k.new_is.whole in
      subst (λ (b : List ℕ). SpellsModule b (all_placed 8 now)) (sym k.new_is.spelled) (of_pieces now w.counted w.sorted w.final)

  -- a section that stands before that of the globals lists what it listed
  kept : {X : Type 0} (none : X) (Spells : ℕ → List ℕ → X → Type 0) (id : SectionId) (x : X) → 0 < rank_of id → rank_of id < 7 →
      Holds none Spells bytes sections id x → Holds none Spells new (all_placed 8 now) id x
  kept none Spells id x some lt h =
      holds none Spells new id x now 8 now_parts (held_before none Spells bytes id x k.first (k.old ++ k.x ∷ k.second)
      (k.fresh ++ written ids.Code c ∷ k.second) 8 (k.late id some lt) (k.late_again id some lt)
      (held none Spells bytes id x was 8 sections was_parts k.sections_are h))

-- the entries of the code
code_again : (bytes : List ℕ) (info : Module) (layout : Layout) (n : ℕ) (contents : List ℕ) (more : List PrimitiveTypeInfo) (new : List ℕ) → Short →
    (m : IsModule bytes info layout) (r : IsRewritten bytes layout n contents more new)
    (k : ArePiecesAgain bytes layout.sections layout.own_globals more r.code (code_section_with bytes r.code r.entry contents) new)
    → (e : AreEntriesAgain bytes layout.entries n r.code.contents r.code.end contents new (code_section_with bytes r.code r.entry contents)
    (contents_at (8 + length (joined (k.first ++ k.fresh))) (written ids.Code (code_section_with bytes r.code r.entry contents))))
    × IsFirstWith (all_placed 8 (k.first ++ (k.fresh ++ written ids.Code (code_section_with bytes r.code r.entry contents) ∷ k.second))) ids.Code
    (placed (8 + length (joined (k.first ++ k.fresh))) (written ids.Code (code_section_with bytes r.code r.entry contents)))
    × Lists SpellsEntries new (all_placed 8 (k.first ++ (k.fresh ++ written ids.Code (code_section_with bytes r.code r.entry contents) ∷ k.second)))
    ids.Code e.entries_again
code_again bytes info layout n contents more new short m r k =
    let c = code_section_with bytes r.code r.entry contents in
    let y = written ids.Code c in
    let u = k.first ++ k.old in
    let u' = k.first ++ k.fresh in
    let was_is = append_assoc k.first k.old (k.x ∷ k.second) in
    let now_is = append_assoc k.first k.fresh (y ∷ k.second) in
    let sorted : AreSorted 0 (u ++ k.x ∷ k.second) = subst (AreSorted 0) (sym was_is) k.sorted in
    let sorted' : AreSorted 0 (u' ++ y ∷ k.second) = subst (AreSorted 0) (sym now_is) k.new_is.whole.sorted in
    let lack : LackPiece u ids.Code = subst (LackPiece u) k.is_code
    (lacks_before u k.second k.x 0 sorted (omega (arith, ap rank_of k.is_code))) in
    let lack' : LackPiece u' ids.Code = lacks_before u' k.second y 0 sorted' (omega arith) in
    let parts_were = module_parts bytes (k.first ++ (k.old ++ k.x ∷ k.second)) k.bytes_are in
    let parts_are = module_parts new (k.first ++ (k.fresh ++ y ∷ k.second)) k.new_is.spelled in
    let listed = subst (λ (l : List Piece). HeldBy [] SpellsEntries 8 l ids.Code layout.entries) (sym was_is)
    (held [] SpellsEntries bytes ids.Code layout.entries (k.first ++ (k.old ++ k.x ∷ k.second)) 8 layout.sections parts_were k.sections_are m.entries_are) in
    let start : ℕ = contents_at (8 + length (joined u)) k.x in
    let spelled : SpellsEntries start k.x.contents layout.entries =
    held_at [] SpellsEntries bytes ids.Code layout.entries u k.second k.x 8 k.is_code lack listed in
    let here = is_placed bytes u k.second k.x (k.bytes_are ∙ ap (λ (l : List Piece). preamble ++ joined l) (sym was_is)) in
    let there = is_placed new u' k.second y (k.new_is.spelled ∙ ap (λ (l : List Piece). preamble ++ joined l) (sym now_is)) in
    let c_is : c ≡ text_with bytes start r.entry (start + length k.x.contents) contents =
    ap (λ (z : Section). code_section_with bytes z r.entry contents) k.code_is in
    let start' : ℕ = contents_at (8 + length (joined u')) y in
    let again = entries_again bytes here.before (joined k.second) k.x.contents new there.before (joined k.second) start start' n layout.entries r.entry
    contents here.parts here.at spelled r.entry_is (there.parts ∙ ap (λ (l : List ℕ). there.before ++ (l ++ joined k.second)) c_is) there.at
    (short (length contents) r.entry_sized) in
    let code_at : r.code.contents ≡ start = ap (λ (z : Section). z.contents) k.code_is in
    let code_to : r.code.end ≡ start + length k.x.contents = ap (λ (z : Section). z.end) k.code_is in
    let moved = subst (λ (m : ℕ). AreEntriesAgain bytes layout.entries n m (start + length k.x.contents) contents new
    (text_with bytes start r.entry (start + length k.x.contents) contents) start') (sym code_at) again in
    let ended = subst (λ (m : ℕ). AreEntriesAgain bytes layout.entries n r.code.contents m contents new
    (text_with bytes start r.entry (start + length k.x.contents) contents) start') (sym code_to) moved in
    let e = subst (λ (l : List ℕ). AreEntriesAgain bytes layout.entries n r.code.contents r.code.end contents new l start') (sym c_is) ended in (
      e,
      subst (λ (l : List Piece). IsFirstWith (all_placed 8 l) ids.Code (placed (8 + length (joined u')) y)) now_is
          (first_placed ids.Code u' k.second y 8 refl lack'),
      holds [] SpellsEntries new ids.Code e.entries_again (k.first ++ (k.fresh ++ y ∷ k.second)) 8 parts_are
          (subst (λ (l : List Piece). HeldBy [] SpellsEntries 8 l ids.Code e.entries_again) now_is
          (held_there [] SpellsEntries new ids.Code e.entries_again u' k.second y 8 refl lack' e.spells)),
    )

pub reread : (bytes : List ℕ) (info : Module) (layout : Layout) (n : ℕ) (contents : List ℕ) (more : List PrimitiveTypeInfo) (new : List ℕ) → Short →
    IsModule bytes info layout → IsRewritten bytes layout n contents more new → layout.unknown.imports ≡ None → layout.unknown.globals ≡ None
    → AreSome more → IsReread bytes info layout n contents more new
reread bytes info layout n contents more new short m r imports globals some =
    let c = code_section_with bytes r.code r.entry contents in
    let own = layout.own_globals in
    let k = pieces_again bytes info layout n contents more new short some m r in
    let y = written ids.Code c in
    let before : List Piece = k.first ++ (k.old ++ k.x ∷ k.second) in
    let after : List Piece = k.first ++ (k.fresh ++ y ∷ k.second) in
    let code = code_again bytes info layout n contents more new short m r k in
    let e = code.0 in
    let parts_were = module_parts bytes before k.bytes_are in
    let parts_are = module_parts new after k.new_is.spelled in
    let wider = k.globals m.globals (sym m.unknown_globals ∙ globals) m.own
    (held nothing_listed (SpellsKnown SpellsGlobal FailsGlobal) bytes ids.Global m.globals before 8 layout.sections parts_were k.sections_are m.globals_are) in
    record {
      again = record {
        sections = all_placed 8 after;
        imported_functions = layout.imported_functions;
        own_globals = own + length more;
        entries = e.entries_again;
        unknown = layout.unknown;
      };
      is = record {
        spells = spells bytes layout.sections own more r.code c new k;
        input = refl;
        types = m.types;
        imports = m.imports;
        functions = m.functions;
        tables = m.tables;
        memories = m.memories;
        globals = grown m.globals more;
        types_are = kept bytes layout.sections own more r.code c new k nothing_listed (SpellsKnown SpellsTypeGroup FailsTypeGroup) ids.Type m.types
            (omega arith) (omega arith) m.types_are;
        imports_are = kept bytes layout.sections own more r.code c new k nothing_listed (SpellsKnown SpellsImport FailsImport) ids.Import m.imports
            (omega arith) (omega arith) m.imports_are;
        functions_are = kept bytes layout.sections own more r.code c new k [] (λ _. SpellsList (SpellsUnsigned 32)) ids.Function m.functions
            (omega arith) (omega arith) m.functions_are;
        tables_are = kept bytes layout.sections own more r.code c new k nothing_listed (SpellsKnown SpellsTable FailsTable) ids.Table m.tables
            (omega arith) (omega arith) m.tables_are;
        memories_are = kept bytes layout.sections own more r.code c new k nothing_listed (SpellsKnown SpellsMemoryType FailsMemoryType) ids.Memory m.memories
            (omega arith) (omega arith) m.memories_are;
        globals_are = holds nothing_listed (SpellsKnown SpellsGlobal FailsGlobal) new ids.Global (grown m.globals more) after 8 parts_are wider;
        entries_are = code.2;
        all_types = m.all_types;
        all_functions = m.all_functions;
        all_tables = m.all_tables;
        all_memories = m.all_memories;
        all_globals = wider_space info.globals (globals_of m.imports.items) m.globals.items (map (merged true) more) m.imports.unknown
            (sym m.unknown_imports ∙ imports) m.all_globals;
        one_reference = m.one_reference;
        imported = m.imported;
        own = ap (λ (j : ℕ). j + length more) m.own;
        entry_each = e.count ∙ m.entry_each;
        unknown_types = m.unknown_types;
        unknown_imports = m.unknown_imports;
        unknown_tables = m.unknown_tables;
        unknown_memories = m.unknown_memories;
        unknown_globals = globals;
      };
      imported = refl;
      own = refl;
      unknown = refl;
      count = e.count;
      entry = e.entry;
      others = e.others;
      moves = λ old place was is.
          let there : Section = placed (8 + length (joined (k.first ++ k.fresh))) y in
          let m = e.move r.code there refl refl refl refl in
          let m' = subst (λ (z : Section). AreMoved layout.entries n contents r.code z new e.entries_again)
          (first_unique (all_placed 8 after) ids.Code there place code.1 is) m in
          subst (λ (z : Section). AreMoved layout.entries n contents z place new e.entries_again)
          (first_unique layout.sections ids.Code r.code old r.code_is was) m';
    }
