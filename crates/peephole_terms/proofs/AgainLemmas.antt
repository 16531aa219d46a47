-- What is written is read again; and with its operator's own tree a block is written as its own trees.
use Rattle.std.proofs.Common.{◌≡◌, ℕ, ◌-◌, ◌+◌, ◌≤◌, Bool, true, false, inl, inr, List, [], ◌++◌, length, map, Result, Ok, refl, sym, ap, subst, ◌∙◌, arith}
use Rattle.std.specs.Prelude.{slice_range, is_some}
use Rattle.std.specs.List.{All}
use Rattle.std.proofs.lemmas.Grind.{common_steps}
use Rattle.wasm_code.specs.Instruction.{Instruction, IsInstruction}
use Rattle.wasm_code.specs.declared.operator.Operator.{Operator}
use Rattle.mutate_base.specs.declared.error.Error.{Error}
use Rattle.peephole_lang.specs.declared.lang.Head.{Head}
use Rattle.peephole_lang.specs.Term.{Term}
use Rattle.peephole_graphs.specs.Block.{IsBlockIn}
use Rattle.peephole_graphs.specs.Entries.{Graph, entry_tree}
use Rattle.peephole_graphs.specs.Forest.{forest}
use Rattle.peephole_graphs.specs.GraphOf.{IsGraphOf}
use Rattle.peephole_graphs.specs.Tree.{instructions_of, instructions}
use Rattle.peephole_terms.specs.EncoderSteps.{Writing}
use Rattle.peephole_terms.specs.Expansion.{Setting, draw_words, draws_of, request}
use Rattle.peephole_terms.specs.Laws.{WritesItsOwnTrees, OwnTreesAreKept, OperatorsHaveEntries}
use Rattle.peephole_terms.specs.ReadAgain.{AppendsReadable, RereadsOwnTrees}
use Rattle.peephole_terms.specs.Written.{Site, source_at, block_operators, is_written, block_shapes, written_block, written_body, IsBodyIn}
use Rattle.peephole_terms.proofs.ReadAgainLemmas.{block_before_last, reads_again}
use Rattle.peephole_terms.proofs.RereadLemmas.{reread}
use Rattle.peephole_terms.proofs.RootTerms.{not_replaced, own_replaced, own_itself, term_where}
use Rattle.peephole_terms.proofs.SettingLemmas.{HasWritten, setting, written_where}
use Rattle.peephole_terms.proofs.SpellingLemmas.{CodesSpell}
use Rattle.peephole_terms.proofs.TermOfLemmas.{IsItself, absent_itself}

-- ---- own trees

-- a term that is written as the tree that it replaces, or isn't written
itself_kept : (s : Setting) (site : Site) (t : Term Head) (code : List Instruction) → IsItself (term_where (is_written s.info site) t) code →
    written_block s.info site code ≡ instructions (forest (block_shapes s.info site)) → WritesItsOwnTrees s site t
itself_kept s site t code h e =
    let form = written_where (is_written s.info site) s t in
    record {
      code = code;
      expands = form.0 ∙ h.expands (length s.info.globals) (draw_words (draws_of (term_where (is_written s.info site) t)) s.stream).0;
      trees = e;
      asks = form.1 ∙ ap (map request) h.asks;
      draws = form.2 ∙ ap (λ ds. setting s.info (draw_words ds s.stream).1) h.takes;
    }

unwritten : (s : Setting) (site : Site) (t : Term Head) → is_written s.info site ≡ false → WritesItsOwnTrees s site t
unwritten s site t w = itself_kept s site t [] (subst (λ b. IsItself (term_where b t) []) (sym w) absent_itself)
    (not_replaced site.block.start site.at [] (forest (block_shapes s.info site)) w)

pub trees_kept : OwnTreesAreKept
trees_kept s preserving site g t h (inl w) = unwritten s site t w
trees_kept s preserving site g t h (inr (i, own, same)) = go (is_written s.info site) refl
  where
    go : (b : Bool) → is_written s.info site ≡ b → WritesItsOwnTrees s site t
    go false w = unwritten s site t w
    go true w =
        let source = source_at s.info preserving site in
        let code = instructions_of (entry_tree source g i) in
        let itself : IsItself t code = rw same (own_itself source g site.at i h own) in
        itself_kept s site t code (subst (λ b. IsItself (term_where b t) code) (sym w) itself) (own_replaced source g site.at i h own)

-- every operator of a block has an entry
length_range : (os : List (Operator × ℕ)) (start end : ℕ) → start ≤ end → end ≤ length os → length (slice_range os start end) ≡ end - start
length_range os start end l m = grind (arith, common_steps)

pub have_entries : OperatorsHaveEntries
have_entries info preserving site g within h at from to =
    let first = site.block.start in
    let n : length (block_operators site) ≡ site.block.end - first = length_range site.operators first site.block.end (omega arith) within in
    let e : first + (at - first) ≡ at = omega arith in
    ap (λ k. is_some (g.own_entry k)) (sym e) ∙ h.keys (at - first) (omega arith)

-- ---- the clauses

pub body_again : CodesSpell → {s : Setting} {site : Site} {t : Term Head} {old : List ℕ} {v : Writing} → IsBodyIn site.input site.operators →
    IsBlockIn site.operators site.block → HasWritten s site t old v → AppendsReadable s site t old v.bytes
body_again spell {s} {site} body block w =
    let code = written_block s.info site w.body.code in
    record {
      code = w.body.code;
      text = written_body site code;
      expands = w.body.expands;
      appended = w.body.appended;
      reads = reads_again spell site code body (block_before_last site.operators site.block body block) w.in_range;
    }

pub body_reread : CodesSpell → {s : Setting} {site : Site} {t : Term Head} {old : List ℕ} {v : Writing} (preserving : Bool) (g : Graph) →
    IsBodyIn site.input site.operators → IsBlockIn site.operators site.block → IsGraphOf (source_at s.info preserving site) g →
    HasWritten s site t old v → RereadsOwnTrees s.info site g t old v.bytes
body_reread spell {s} {site} {t} {old} preserving g body block h w = λ keeps.
    let kept = trees_kept s preserving site g t h keeps in
    let both : ◌≡◌ {A = Result (List Instruction) Error} (Ok w.body.code) (Ok kept.code) = sym w.body.expands ∙ kept.expands in
    let code : w.body.code ≡ kept.code = cc in
    let same = ap (written_block s.info site) code ∙ kept.trees in (
      written_body site (instructions (forest (block_shapes s.info site))),
      w.body.appended ∙ ap (λ is. old ++ written_body site is) same,
      reread spell s.info site body block h.fit (subst (All IsInstruction) same w.in_range),
    )
