-- `teddertempo_change_with` meets its contract: a walk of its MIR, by hand. The bytes are lent as a slice for a lifetime that is made for
-- the call of `change_with_in`, and come back once it is ended. The references to the options and the report are handed on.
use Rattle.std.proofs.Common.{ℕ, ◌^◌, ◌<◌, List, [], ◌∷◌, ◌++◌, length, refl, sym, ap, arith, w64, Bor, MutBor}
use Rattle.std.proofs.raw_atomic.Walks.{proved}
use base.Fraction.{full_share}
use base.Logic.{id⊢, sep}
use base.Fml.{Lft, GName, flft}
use mir.Syntax.{named}
use mir.Val.{Val, vint}
use contract.Monad.{fact}
use contract.Running.{tables}
use prog.Wp.{WpFn}
use types.Logic.{sem}
use types.Kit.{‵, raw, ◌⊛◌, some, later, prop, ◌$◌, ◌∵◌, !, qed, done, move, keep, drop, use1, use3, split, join, fsplit, fjoin, feq_l}
use types.Kit.{Goal, pick, await, regoal, suffices, frame, group, show}
use types.Part.{agg}
use types.Run.{and_then, no_more, addr, stop, returns, enter}
use types.ByLocal.{alloc_all, pass_all, free_all, look_at, get, through, sets, lands_as, is}
use types.Tokens.{lft_new, lft_end}
use denote.Builtin.{usize}
use denote.Exit.{yes}
use denote.Laws.{Is, shows}
use denote.Plain.{uint_vals, uint_Tells, uint_Makes, uint_Lawful}
use denote.RattleType.{owns}
use denote.RawPtr.{Ptr, RawPtr, block_ptr, ptr_val, in_a_block, rawptr_vals, rawptr_Tells}
use denote.Ref.{shr_vals, shr_Tells, mut_vals, mut_Tells}
use denote.Signature.{plain, shr_ref_to, types_at}
use denote.Slice.{slice_val}
use denote.Steps.{nothing, owned, peeks, heard}
use denote.Struct.Laws as of_fields
use denote.Triple.Call.{calls_at}
use denote.Triple.Clauses.{lasts}
use denote.Triple.Entry.{alive}
use denote.Triple.Spec.{triple_of}
use denote.Triple.Table.{framed}
use denote.Triple.Walked.{says, Stays, stay_dropped, gave_ref, walk_of, ends_at, Goes-dropped, Goes-gave_ref}
use Rattle.std.specs.contracts.alloc.Global as G
use Rattle.std.proofs.alloc.Global.TheLaws as L
use Rattle.teddertempo_c.specs.Buffer.{buffer_bytes_at}
use Rattle.teddertempo_c.specs.ChangeReports.{ChangesWith}
use Rattle.teddertempo_c.specs.declared.change_options.ChangeOptions.{ChangeOptions}
use Rattle.teddertempo_c.specs.declared.report.Report.{Report}
use Rattle.teddertempo_c.specs.contracts.change_options.ChangeOptions as O
use Rattle.teddertempo_c.specs.contracts.report.Report as R
use Rattle.teddertempo_c.proofs.BufferLemmas.{Bytes, slice_at, Slice, Behind, bytes_out, lends_bytes, bytes_back}
use Rattle.teddertempo_c.specs.contracts.changing.change_with_in as g
use Rattle.teddertempo_c.proofs.changing.change_with_in.Met.{met}
use Rattle.teddertempo_c.specs.contracts.teddertempo_change_with as f
use Rattle.teddertempo_c.proofs.teddertempo_change_with.Statement.{statement}
use Rattle.teddertempo_c.proofs.teddertempo_change_with.Code as code

-- what is said of each parameter at the return: of the report its last value, and nothing of the others
abbrev stayed : Stays f.ended.signature.params f.ended.kept
stayed = (
  stay_dropped _ yes,
  (stay_dropped _ yes, (stay_dropped _ yes, (stay_dropped _ yes, (stay_dropped _ yes, (gave_ref (1 ∷ []) tt (plain (λ _. R.the_row)), tt))))),
)

-- what the call may have changed: of its five parameters the slice and the report
abbrev Lasts : Type 0
Lasts = Unit {0} × (List ℕ × (Unit {0} × (Unit {0} × (Report × Unit {0}))))

pub teddertempo_change_with_spec : {M : Type 1} → statement M
teddertempo_change_with_spec 𝓤 𝓛 𝓜 𝓡 wired =
    let c = f.clauses 𝓛 𝓜.mem 𝓡.returns in let W = walk_of 𝓛 f.ended stayed c in let 𝓣 = tables 𝓤 𝓛.H 𝓜 𝓡 𝓡.env in
    let handle = Goes-dropped 𝓛 2 (plain (λ _. G.the_row)) yes (λ κs x w. refl) in
    let pointer = Goes-dropped 𝓛 2 (plain (λ _. RawPtr)) yes (λ κs x w. refl) in
    let number = Goes-dropped 𝓛 2 (plain (λ _. usize)) yes (λ κs x w. refl) in
    let asked = Goes-dropped 𝓛 2 (shr_ref_to (0 ∷ []) tt (plain (λ _. O.the_row))) yes (λ κs x w. refl) in
    let told = Goes-gave_ref 𝓛 2 1 tt (plain (λ _. R.the_row)) in
    proved 𝓛 f.ended stayed c 𝓜 𝓡 (handle, (pointer, (number, (number, (asked, (told, tt)))))) f.Key.name code.function (code.unfolded 𝓤 𝓛.H 𝓜 𝓡 wired)
    (λ κs. (of_fields.vals G.the_type L.the_laws, (rawptr_vals, (uint_vals w64, (uint_vals w64, (shr_vals, (mut_vals, tt)))))))
    (λ κs. (
      of_fields.tells G.the_type L.the_laws,
      (rawptr_Tells, (uint_Tells w64, (uint_Tells w64, (shr_Tells (named 0) κs.0 O.the_row, (mut_Tells (named 1) κs.1.0 R.the_row, tt))))),
    ))
    (λ κs qs bounds a old are.
    let size : ℕ = a.1.1.0 in let n : ℕ = a.1.1.1.0 in let options : Bor ChangeOptions = a.1.1.1.1.0 in let report : MutBor Report = a.1.1.1.1.1.0 in
    let h : Val = of_fields.val G.the_type L.the_laws a.0 in
    let y : Ptr → W.Ghost = λ p. (
      (
        κs,
        qs,
        bounds,
        (a.0, (p, (size, (n, (options, (report, tt)))))),
        (h ∷ [], (rawptr_vals p, (uint_vals w64 size, (uint_vals w64 n, (shr_vals options, (mut_vals report, tt)))))),
      ),
      old,
    ) in
    let Called : Ptr → Goal 𝓤 𝓛.H = λ p. prop
    (WpFn 𝓤 𝓛.H 𝓣.C 𝓣.Λ code.function (h ∷ ptr_val p ∷ vint w64 size ∷ vint w64 n ∷ (shr_vals options ++ mut_vals report)) (W.post (y p))) in
    qed 𝓛 (
    (raw (alive 𝓛 f.signature κs qs) ⊛ ‵ (owns (types_at f.signature.params κs) a (y a.1.0).0.4)) ∷
    ‵ (buffer_bytes_at a.1.0 n old) ∷ raw (fact 𝓤 (n < 2 ^ 63)) ∷ []
    ) ∵
    split ! $ move ! (1 ∷ []) $ fsplit ! $ drop ! $ fsplit ! $ drop ! $ fsplit ! $ drop ! $ fsplit ! $ drop ! $
    -- [the references; their tokens; the bytes; their bound]
    move ! (3 ∷ []) $ heard ! (n < 2 ^ 63) (λ low. move ! (2 ∷ []) $
    in_a_block ! a.1.0 (λ p. buffer_bytes_at p n old) (id⊢ 𝓤 _) (λ b o e. regoal ! Called e refl $
    use1 𝓛 (‵ (Bytes n b o old)) (bytes_out 𝓛 n b o old) $ fsplit ! $ feq_l ! (λ count.
    let fits : length old < 2 ^ 64 = omega arith in let fits_n : n < 2 ^ 64 = omega arith in
    enter ! _ _ _ _ _ $
    alloc_all ! (λ l. pass_all ! refl (
      ((of_fields.lawful G.the_type L.the_laws 𝓛).typed a.0 _ are.0).0,
      ((tt, tt), ((tt, record { fits = are.1.1.0.1 }), ((tt, record { fits = fits_n }), ((tt, tt), ((tt, tt), tt))))),
    ) $
    -- [the bytes; the references; their tokens; the locals]
    -- from_raw_parts_mut(data, max_size)
    sets ! (is ! (agg ! (and_then ! (get ! refl) (and_then ! (get ! refl) (no_more !)))) (ap (slice_val (b, o)) (sym count))) refl
    (tt, (tt, (record { fits = fits }, tt))) $
    -- report
    sets ! (addr ! (through ! refl (stop !))) refl (tt, tt) $
    lft_new ! tt (λ α. let κ : Lft = α ∷ [] in move ! (1 ∷ []) $
    use1 𝓛 (later (some (λ (γ : GName). ‵ (Slice κ b o γ old) ⊛ ‵ (Behind κ b o γ old)))) (lends_bytes 𝓛 n b o old count low κ) $
    await ! tt $ pick ! (λ γ. split ! $
    -- [the slice; the right to the bytes; its token; the references; their tokens; the locals]
    let Of = triple_of 𝓛 g.signature (g.spec 𝓛 𝓜.mem 𝓡.returns) in
    let z : Of.Ghost = (
      (
        (κ, κs),
        (full_share, qs),
        tt,
        (a.0, (slice_at b o γ old, (size, (options, (report, tt))))),
        (h ∷ [], (slice_val (b, o) (length old) ∷ [], (uint_vals w64 size, (shr_vals options, (mut_vals report, tt))))),
      ),
      tt,
    ) in
    move ! (3 ∷ []) $ owned ! usize (Is usize) (uint_Makes 𝓛 w64) size _ (refl, are.1.1.0.1) $ fjoin ! $ move ! (1 ∷ 0 ∷ []) $ fjoin ! $
    owned ! G.the_row (Is G.the_row) (of_fields.makes G.the_type L.the_plain 𝓛) a.0 _ are.0 $ fjoin ! $
    -- [the arguments; the right to the bytes; the slice's token; the references' tokens; the locals]
    move ! (2 ∷ 3 ∷ []) $ join ! $ join ! $ nothing ! $ move ! (1 ∷ 0 ∷ []) $ join ! $ use1 𝓛 (raw (Of.pre z)) (id⊢ 𝓤 _) $
    -- change_with_in(alloc, .., size, options, ..)
    calls_at ! (framed 𝓤 𝓛.H 𝓜 𝓣) Of (met 𝓤 𝓛 𝓜 𝓡 (code.calls-teddertempo_c::changing::change_with_in 𝓡.env wired)) z
    (and_then ! (get ! refl) (and_then ! (get ! refl) (and_then ! (get ! refl) (and_then ! (get ! refl) (and_then ! (get ! refl) (no_more !)))))) (λ v.
    use1 𝓛 (later (some (λ (r : ℕ). ((‵ (flft κ full_share) ⊛ raw (alive 𝓛 f.signature κs qs)) ⊛ ‵ (usize.own_val r (v ∷ []))) ⊛
    some (λ (ws : Lasts). ‵ (lasts g.ended z.0.0 z.0.3 ws) ⊛ raw (fact 𝓤 (ChangesWith options.now size old r ws.1.0 ws.1.1.1.1.0)))))) (id⊢ 𝓤 _) $
    await ! tt $ pick ! (λ r. split ! $ split ! $ split ! $ lft_end ! tt $
    move ! (3 ∷ []) $ pick ! (λ ws. let new : List ℕ = ws.1.0 in let last : Report = ws.1.1.1.1.0 in
    split ! $ fsplit ! $ drop ! $ fsplit ! $ fsplit ! $ fsplit ! $
    -- [the slice's last value; its length; its borrow; the others; the clause; the lifetime is over; the tokens; the result; the right to the bytes; ..]
    move ! (5 ∷ 8 ∷ 0 ∷ []) $ use3 𝓛 (later (‵ (buffer_bytes_at (block_ptr b o) n new))) (bytes_back 𝓛 n b o old count low κ γ new) $ await ! tt $
    move ! (4 ∷ []) $ heard ! _ (λ changes. move ! (5 ∷ []) $
    -- [the result; the bytes; the slice's length; its borrow; the other last values; the tokens; the locals]
    peeks ! usize (Is usize) (shows 𝓛 usize) r (v ∷ []) (λ is. lands_as ! refl refl ((uint_Lawful 𝓛 w64).typed r _ is).0 $
    returns ! (look_at ! 0 refl) $ free_all ! refl $ keep ! (4 ∷ 0 ∷ 1 ∷ 5 ∷ []) $
    suffices ! _ (ends_at 𝓛 f.ended stayed c (y (block_ptr b o)) v r (tt, (tt, (tt, (tt, (tt, (last, tt)))))) (tt, (tt, (tt, (tt, (tt, (tt, tt))))))) $
    fsplit ! $ drop ! $ nothing ! $ join ! $ nothing ! $ join ! $ nothing ! $ join ! $ nothing ! $ join ! $ move ! (3 ∷ 0 ∷ 1 ∷ []) $ group ! 3 $ frame ! $
    show ! (λ (bytes : List ℕ). sep 𝓤 (sem 𝓛 (buffer_bytes_at (block_ptr b o) n bytes))
    (fact 𝓤 (ChangesWith options.now size old r bytes last))) new $
    says ! changes $ done !))))))))))))
