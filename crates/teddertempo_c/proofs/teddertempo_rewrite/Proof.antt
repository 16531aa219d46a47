-- `teddertempo_rewrite` meets its contract: a walk of its MIR, by hand. The bytes are lent as a slice for a lifetime that is made for
-- the call of `rewrite_in`, and come back once it is ended.
use Rattle.std.proofs.Common.{ℕ, ◌^◌, ◌<◌, List, [], ◌∷◌, length, refl, sym, ap, arith, w64}
use Rattle.std.proofs.raw_atomic.Walks.{proved}
use base.Fraction.{full_share}
use base.Logic.{id⊢, sep}
use base.Fml.{Lft, GName, ftrue, flft}
use mir.Val.{Val, vint}
use contract.Monad.{fact}
use contract.Running.{tables}
use prog.Wp.{WpFn}
use types.Logic.{sem}
use types.Kit.{‵, raw, ◌⊛◌, some, later, prop, ◌$◌, ◌∵◌, !, qed, done, move, keep, drop, use1, use3, split, join, fsplit, fjoin, feq_l}
use types.Kit.{pick, await, regoal, suffices, frame, group, show}
use types.Part.{agg}
use types.Run.{and_then, no_more, returns, enter}
use types.ByLocal.{alloc_all, pass_all, free_all, look_at, get, sets, lands_as, is}
use types.Tokens.{lft_new, lft_end}
use denote.Builtin.{u64, usize}
use denote.Exit.{yes}
use denote.Laws.{Is, shows}
use denote.Plain.{uint_vals, uint_Tells, uint_Makes, uint_Lawful}
use denote.RawPtr.{Ptr, RawPtr, block_ptr, ptr_val, in_a_block, rawptr_vals, rawptr_Tells}
use denote.Signature.{plain}
use denote.Slice.{slice_val}
use denote.Steps.{nothing, owned, peeks, heard}
use denote.Struct.Laws as of_fields
use denote.Triple.Call.{calls_at}
use denote.Triple.Clauses.{lasts}
use denote.Triple.Entry.{on_entry}
use denote.Triple.Spec.{triple_of}
use denote.Triple.Table.{framed}
use denote.Triple.Walked.{says, Stays, stay_dropped, walk_of, ends_at, Goes-dropped}
use Rattle.std.specs.contracts.alloc.Global as G
use Rattle.std.proofs.alloc.Global.TheLaws as L
use Rattle.teddertempo_c.specs.Buffer.{buffer_bytes_at}
use Rattle.teddertempo_c.specs.Writes.{RewritesOnce}
use Rattle.teddertempo_c.proofs.BufferLemmas.{Bytes, slice_at, Slice, Behind, bytes_out, lends_bytes, bytes_back}
use Rattle.teddertempo_c.specs.contracts.rewriting.rewrite_in as g
use Rattle.teddertempo_c.proofs.rewriting.rewrite_in.Met.{met}
use Rattle.teddertempo_c.specs.contracts.teddertempo_rewrite as f
use Rattle.teddertempo_c.proofs.teddertempo_rewrite.Statement.{statement}
use Rattle.teddertempo_c.proofs.teddertempo_rewrite.Code as code

-- nothing is said of a parameter at the return
abbrev stayed : Stays f.ended.signature.params f.ended.kept
stayed = (stay_dropped _ yes, (stay_dropped _ yes, (stay_dropped _ yes, (stay_dropped _ yes, (stay_dropped _ yes, tt)))))

-- what the call may have changed: of its four parameters the slice alone
abbrev Lasts : Type 0
Lasts = Unit {0} × (List ℕ × (Unit {0} × (Unit {0} × Unit {0})))

pub teddertempo_rewrite_spec : {M : Type 1} → statement M
teddertempo_rewrite_spec 𝓤 𝓛 𝓜 𝓡 wired =
    let c = f.clauses 𝓛 𝓜.mem 𝓡.returns in let W = walk_of 𝓛 f.ended stayed c in let 𝓣 = tables 𝓤 𝓛.H 𝓜 𝓡 𝓡.env in
    let handle = Goes-dropped 𝓛 0 (plain (λ _. G.the_row)) yes (λ κs x w. refl) in
    let pointer = Goes-dropped 𝓛 0 (plain (λ _. RawPtr)) yes (λ κs x w. refl) in
    let number = Goes-dropped 𝓛 0 (plain (λ _. usize)) yes (λ κs x w. refl) in
    proved 𝓛 f.ended stayed c 𝓜 𝓡 (handle, (pointer, (number, (number, (number, tt))))) f.Key.name code.function (code.unfolded 𝓤 𝓛.H 𝓜 𝓡 wired)
    (λ κs. (of_fields.vals G.the_type L.the_laws, (rawptr_vals, (uint_vals w64, (uint_vals w64, (uint_vals w64, tt))))))
    (λ κs. (of_fields.tells G.the_type L.the_laws, (rawptr_Tells, (uint_Tells w64, (uint_Tells w64, (uint_Tells w64, tt))))))
    (λ κs qs bounds a old are.
    let size : ℕ = a.1.1.0 in let n : ℕ = a.1.1.1.0 in let seed : ℕ = a.1.1.1.1.0 in let h : Val = of_fields.val G.the_type L.the_laws a.0 in
    let y : Ptr → W.Ghost = λ p. (
      (κs, qs, bounds, (a.0, (p, (size, (n, (seed, tt))))), (h ∷ [], (rawptr_vals p, (uint_vals w64 size, (uint_vals w64 n, (uint_vals w64 seed, tt)))))),
      old,
    ) in
    qed 𝓛 (raw (on_entry 𝓛 f.signature κs qs a (y a.1.0).0.4) ∷ ‵ (buffer_bytes_at a.1.0 n old) ∷ raw (fact 𝓤 (n < 2 ^ 63)) ∷ []) ∵ drop ! $
    move ! (1 ∷ []) $ heard ! (n < 2 ^ 63) (λ low. in_a_block ! a.1.0 (λ p. buffer_bytes_at p n old) (id⊢ 𝓤 _) (λ b o e.
    regoal ! (λ p. prop (WpFn 𝓤 𝓛.H 𝓣.C 𝓣.Λ code.function (h ∷ ptr_val p ∷ vint w64 size ∷ vint w64 n ∷ vint w64 seed ∷ []) (W.post (y p)))) e refl $
    use1 𝓛 (‵ (Bytes n b o old)) (bytes_out 𝓛 n b o old) $ fsplit ! $ feq_l ! (λ count.
    let fits : length old < 2 ^ 64 = omega arith in let fits_n : n < 2 ^ 64 = omega arith in
    enter ! _ _ _ _ _ $
    alloc_all ! (λ l. pass_all ! refl (
      ((of_fields.lawful G.the_type L.the_laws 𝓛).typed a.0 _ are.0).0,
      ((tt, tt), ((tt, record { fits = are.1.1.0.1 }), ((tt, record { fits = fits_n }), ((tt, record { fits = are.1.1.1.1.0.1 }), tt)))),
    ) $
    -- [the bytes; the locals]
    -- from_raw_parts_mut(data, max_size)
    sets ! (is ! (agg ! (and_then ! (get ! refl) (and_then ! (get ! refl) (no_more !)))) (ap (slice_val (b, o)) (sym count))) refl
    (tt, (tt, (record { fits = fits }, tt))) $
    lft_new ! tt (λ α. let κ : Lft = α ∷ [] in move ! (1 ∷ []) $
    use1 𝓛 (later (some (λ (γ : GName). ‵ (Slice κ b o γ old) ⊛ ‵ (Behind κ b o γ old)))) (lends_bytes 𝓛 n b o old count low κ) $
    await ! tt $ pick ! (λ γ. split ! $
    -- [the slice; the right to the bytes; the token; the locals]
    let Of = triple_of 𝓛 g.signature (g.spec 𝓛 𝓜.mem 𝓡.returns) in
    let z : Of.Ghost = (
      (
        (κ, tt),
        (full_share, tt),
        tt,
        (a.0, (slice_at b o γ old, (size, (seed, tt)))),
        (h ∷ [], (slice_val (b, o) (length old) ∷ [], (uint_vals w64 size, (uint_vals w64 seed, tt)))),
      ),
      tt,
    ) in
    nothing ! $ owned ! u64 (Is u64) (uint_Makes 𝓛 w64) seed _ (refl, are.1.1.1.1.0.1) $ fjoin ! $
    owned ! usize (Is usize) (uint_Makes 𝓛 w64) size _ (refl, are.1.1.0.1) $ fjoin ! $ move ! (1 ∷ 0 ∷ []) $ fjoin ! $
    owned ! G.the_row (Is G.the_row) (of_fields.makes G.the_type L.the_plain 𝓛) a.0 _ are.0 $ fjoin ! $
    -- [the arguments; the right to the bytes; the token; the locals]
    nothing ! $ move ! (3 ∷ 0 ∷ []) $ join ! $ join ! $ nothing ! $ move ! (1 ∷ 0 ∷ []) $ join ! $ use1 𝓛 (raw (Of.pre z)) (id⊢ 𝓤 _) $
    -- rewrite_in(alloc, .., size, seed)
    calls_at ! (framed 𝓤 𝓛.H 𝓜 𝓣) Of (met 𝓤 𝓛 𝓜 𝓡 (code.calls-teddertempo_c::rewriting::rewrite_in 𝓡.env wired)) z
    (and_then ! (get ! refl) (and_then ! (get ! refl) (and_then ! (get ! refl) (and_then ! (get ! refl) (no_more !))))) (λ v.
    use1 𝓛 (later (some (λ (r : ℕ). ((‵ (flft κ full_share) ⊛ ‵ ftrue) ⊛ ‵ (usize.own_val r (v ∷ []))) ⊛
    some (λ (ws : Lasts). ‵ (lasts g.ended z.0.0 z.0.3 ws) ⊛ raw (fact 𝓤 (RewritesOnce seed size old r ws.1.0)))))) (id⊢ 𝓤 _) $ await ! tt $ pick ! (λ r.
    split ! $ split ! $ split ! $ lft_end ! tt $
    move ! (3 ∷ []) $ pick ! (λ ws. let new : List ℕ = ws.1.0 in split ! $ fsplit ! $ drop ! $ fsplit ! $ fsplit ! $ fsplit ! $
    -- [the slice's last value; its length; its borrow; the numbers; the clause; the lifetime is over; nothing; the result; the right to the bytes; ..]
    move ! (5 ∷ 8 ∷ 0 ∷ []) $ use3 𝓛 (later (‵ (buffer_bytes_at (block_ptr b o) n new))) (bytes_back 𝓛 n b o old count low κ γ new) $ await ! tt $
    move ! (4 ∷ []) $ heard ! _ (λ rewrites.
    -- [the bytes; the slice's length; its borrow; the numbers; nothing; the result; the locals]
    move ! (5 ∷ []) $ peeks ! usize (Is usize) (shows 𝓛 usize) r (v ∷ []) (λ is. lands_as ! refl refl ((uint_Lawful 𝓛 w64).typed r _ is).0 $
    returns ! (look_at ! 0 refl) $ free_all ! refl $ keep ! (0 ∷ 1 ∷ []) $
    suffices ! _ (ends_at 𝓛 f.ended stayed c (y (block_ptr b o)) v r (tt, (tt, (tt, (tt, (tt, tt))))) (tt, (tt, (tt, (tt, (tt, tt)))))) $
    nothing ! $ nothing ! $ join ! $ nothing ! $ join ! $ nothing ! $ join ! $ nothing ! $ join ! $ nothing ! $ join ! $ nothing ! $ group ! 3 $ frame ! $
    show ! (λ (bytes : List ℕ). sep 𝓤 (sem 𝓛 (buffer_bytes_at (block_ptr b o) n bytes)) (fact 𝓤 (RewritesOnce seed size old r bytes))) new $
    says ! rewrites $ done !))))))))))))
