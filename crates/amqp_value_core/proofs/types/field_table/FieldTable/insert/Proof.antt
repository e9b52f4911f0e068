-- `FieldTable::insert` returns what `lend` returns, without its struct (`bare`), so at each result
-- its clauses are those of `lend`.
use Rattle.std.proofs.Common.{◌≡◌, List, [], ◌∷◌, refl, sym, subst, Ok, Err}
use Rattle.std.proofs.raw_atomic.Walks.{proved_at, leaves}
use seplogic.Ra.Ura.{Ura}
use mir.Val.{Val, vptr, has_ty, WT}
use lib.Dec.{T}
use base.Logic.{SProp, ent, id⊢, via, fst∗, snd∗}
use prog.Model.{Model}
use prog.Wired.{Wired}
use prog.Wp.{WpFn, spot_of}
use types.Logic.{Logic, sem}
use types.Kit.{‵, raw, ◌⊛◌, some, later, ◌$◌, ◌∵◌, !, qed, done, move, drop, use1, use2, split, join, fjoin, pick, await, suffices}
use types.Run.{enter, of_opd, addr, stop, no_more, and_then, returns}
use types.ByLocal.{alloc_all, pass_all, free_all, look_at, get, through, sets, lands_as, env}
use contract.Monad.{fact, fact_use}
use contract.Running.{Running, tables}
use denote.RattleType.{owns}
use denote.Signature.{types_at, type_at}
use denote.Ref.{mut_vals}
use denote.Steps.{nothing, heard, peeks}
use denote.Triple.Call.{calls_at}
use denote.Triple.Clauses.{Clauses, Lasts, at_exit, lasts}
use denote.Triple.Entry.{Res, Vals, alive, on_entry}
use denote.Triple.Spec.{triple_of}
use denote.Triple.Table.{framed}
use denote.Triple.Walked.{Stays, walk_of}
use borrow.Fn.Kinds.{stays}
use borrow.Fn.Function.{go_p}
use borrow.Fn.Between.{Seen, owns-Seen}
use Rattle.amqp_value_core.specs.Lending.{bare_of}
use Rattle.amqp_value_core.specs.contracts.types.field_table.FieldTable.insert as f
use Rattle.amqp_value_core.specs.contracts.types.field_table.FieldTable.insert.Key as key
use Rattle.amqp_value_core.specs.contracts.types.field_table.FieldTable.lend as g
use Rattle.amqp_value_core.specs.contracts.types.field_table.bare as h
use Rattle.amqp_value_core.proofs.types.field_table.FieldTable.lend.Met as lend_proved
use Rattle.amqp_value_core.proofs.types.field_table.bare.Met as bare_proved
use Rattle.amqp_value_core.proofs.types.field_table.FieldTable.insert.Kinds as kinds
use Rattle.amqp_value_core.proofs.types.field_table.FieldTable.lend.Kinds as lend_kinds
use Rattle.amqp_value_core.proofs.types.field_table.bare.Kinds as bare_kinds
use Rattle.amqp_value_core.proofs.types.field_table.FieldTable.insert.Statement.{statement}
use Rattle.amqp_value_core.proofs.types.field_table.FieldTable.insert.Code as code

abbrev stayed : Stays f.ended.signature.params f.ended.kept
stayed = stays kinds.ps

module _ {M : Type 1} (𝓤 : Ura M) (𝓛 : Logic 𝓤) (𝓜 : Model 𝓤 𝓛.H) (𝓡 : Running 𝓤 𝓛.H 𝓜) (wired : Wired 𝓡.env code.code) where
  abbrev c : Clauses 𝓤 f.ended
  c = f.clauses 𝓛 𝓜.mem 𝓡.returns

  module _ (y : (walk_of 𝓛 f.ended stayed c).Ghost) where
    abbrev At : Vals f.signature y.0.0 → (walk_of 𝓛 f.ended stayed c).Ghost
    At vss = ((y.0.0, y.0.1, y.0.2, y.0.3, vss), tt)

    abbrev Goes : Vals f.signature y.0.0 → Type 1
    Goes vss = ent 𝓤 ((walk_of 𝓛 f.ended stayed c).pre (At vss)) (WpFn 𝓤 𝓛.H (tables 𝓤 𝓛.H 𝓜 𝓡 𝓡.env).C (tables 𝓤 𝓛.H 𝓜 𝓡 𝓡.env).Λ code.function ((walk_of 𝓛 f.ended stayed c).args (At vss)) ((walk_of 𝓛 f.ended stayed c).post (At vss)))

    abbrev Gives : (x : Res g.signature y.0.0) → Lasts f.ended y.0.0 y.0.3 → SProp 𝓤
    Gives x ws = (g.clauses 𝓛 𝓜.mem 𝓡.returns y.0.0 y.0.3).ensures tt x (at_exit g.ended y.0.0 y.0.3 ws)

    abbrev Owes : (s : Res f.signature y.0.0) → Lasts f.ended y.0.0 y.0.3 → SProp 𝓤
    Owes s ws = (c y.0.0 y.0.3).ensures tt s (at_exit f.ended y.0.0 y.0.3 ws)

    -- what must hold of the table follows from what holds of it in its struct
    cases : (x : Res g.signature y.0.0) (ws : Lasts f.ended y.0.0 y.0.3) → ent 𝓤 (Gives x ws) (Owes (bare_of x) ws)
    cases (Ok x) ws = id⊢ 𝓤 (Gives (Ok x) ws)
    cases (Err e) ws = id⊢ 𝓤 (Gives (Err e) ws)

    owed : (x : Res g.signature y.0.0) (s : Res f.signature y.0.0) (ws : Lasts f.ended y.0.0 y.0.3) → s ≡ bare_of x → ent 𝓤 (Gives x ws) (Owes s ws)
    owed x s ws e = subst (λ (t : Res f.signature y.0.0). ent 𝓤 (Gives x ws) (Owes t ws)) (sym e) (cases x ws)

    -- two calls: `lend`, and what it lent goes into `bare`
    walks : (k v : Val) → T (has_ty (spot_of 𝓤 𝓛.H (env code.function.locals (λ _. 0)) 2).0 k) × WT k → T (has_ty (spot_of 𝓤 𝓛.H (env code.function.locals (λ _. 0)) 3).0 v) × WT v
        → Goes (vptr y.0.3.0.ref_ptr.0 y.0.3.0.ref_ptr.1 ∷ [], (k ∷ [], (v ∷ [], tt)))
    walks k v k_ok v_ok =
        let vss : Vals f.signature y.0.0 = (vptr y.0.3.0.ref_ptr.0 y.0.3.0.ref_ptr.1 ∷ [], (k ∷ [], (v ∷ [], tt))) in
        let G = triple_of 𝓛 g.signature (g.spec 𝓛 𝓜.mem 𝓡.returns) in
        let z : G.Ghost = ((y.0.0, y.0.1, y.0.2, y.0.3, vss), tt) in
        let B = triple_of 𝓛 h.signature (h.spec 𝓛 𝓜.mem 𝓡.returns) in
        qed 𝓛 (raw (G.pre z) ∷ []) ∵ enter ! _ _ _ _ _ $
        alloc_all ! (λ l. pass_all ! refl ((tt, tt), (k_ok, (v_ok, tt))) $
        sets ! (addr ! (through ! refl (stop !))) refl (tt, tt) $
        sets ! (of_opd ! (get ! refl)) refl k_ok $
        sets ! (of_opd ! (get ! refl)) refl v_ok $
        calls_at ! (framed 𝓤 𝓛.H 𝓜 (tables 𝓤 𝓛.H 𝓜 𝓡 𝓡.env)) G (lend_proved.met 𝓤 𝓛 𝓜 𝓡 (code.calls-amqp_value_core::types::field_table::FieldTable::lend 𝓡.env wired)) z
        (and_then ! (get ! refl) (and_then ! (get ! refl) (and_then ! (get ! refl) (no_more !)))) (λ lent.
        use1 𝓛 (later (some (λ (x : Res g.signature y.0.0). (raw (alive 𝓛 g.signature y.0.0 y.0.1) ⊛ ‵ ((type_at g.signature.result y.0.0).own_val x (lent ∷ [])))
        ⊛ some (λ (ws : Lasts g.ended y.0.0 y.0.3). ‵ (lasts g.ended y.0.0 y.0.3 ws) ⊛ raw (Gives x ws))))) (id⊢ 𝓤 _) $
        await ! tt $ pick ! (λ x. split ! $ split ! $ move ! (2 ∷ []) $ pick ! (λ ws. split ! $ drop ! $ move ! (2 ∷ []) $
        -- [what was lent; what holds of it; the token]
        peeks ! (type_at g.signature.result y.0.0) (lend_kinds.r.is.Is y.0.0) ((lend_kinds.r.laws M 𝓤 𝓛).seen y.0.0) x (lent ∷ []) (λ is.
        lands_as ! refl refl ((lend_kinds.r.laws M 𝓤 𝓛).typed y.0.0 x lent is [] (spot_of 𝓤 𝓛.H (env code.function.locals l) 4).0 refl) $
        let b : B.Ghost = ((y.0.0, y.0.1, y.0.2, (x, tt), (lent ∷ [], tt)), tt) in
        nothing ! $ move ! (1 ∷ 0 ∷ []) $ join ! $ move ! (2 ∷ 0 ∷ []) $ join ! $ nothing ! $ move ! (1 ∷ 0 ∷ []) $ use2 𝓛 (raw (B.pre b)) (id⊢ 𝓤 _) $
        calls_at ! (framed 𝓤 𝓛.H 𝓜 (tables 𝓤 𝓛.H 𝓜 𝓡 𝓡.env)) B (bare_proved.met 𝓤 𝓛 𝓜 𝓡 (code.calls-amqp_value_core::types::field_table::bare 𝓡.env wired)) b
        (and_then ! (get ! refl) (no_more !)) (λ out.
        use1 𝓛 (later (some (λ (s : Res h.signature y.0.0). (raw (alive 𝓛 h.signature y.0.0 y.0.1) ⊛ ‵ ((type_at h.signature.result y.0.0).own_val s (out ∷ [])))
        ⊛ some (λ (us : Lasts h.ended y.0.0 (x, tt)). ‵ (lasts h.ended y.0.0 (x, tt) us) ⊛ raw (fact 𝓤 (s ≡ bare_of x)))))) (id⊢ 𝓤 _) $
        await ! tt $ pick ! (λ s. split ! $ split ! $ move ! (2 ∷ []) $ pick ! (λ us. split ! $ drop ! $ heard ! _ (λ same. move ! (1 ∷ []) $
        peeks ! (type_at h.signature.result y.0.0) (bare_kinds.r.is.Is y.0.0) ((bare_kinds.r.laws M 𝓤 𝓛).seen y.0.0) s (out ∷ []) (λ is_bare.
        lands_as ! refl refl ((bare_kinds.r.laws M 𝓤 𝓛).typed y.0.0 s out is_bare [] (spot_of 𝓤 𝓛.H (env code.function.locals l) 0).0 refl) $
        -- [the table; the token; what holds of it in its struct]
        returns ! (look_at ! 0 refl) $ free_all ! refl $
        move ! (2 ∷ []) $ use1 𝓛 (raw (Owes s ws)) (owed x s ws same) $ move ! (2 ∷ 1 ∷ 0 ∷ []) $
        suffices ! _ (leaves 𝓛 f.ended stayed c (At vss) out s ws (tt, (tt, (tt, tt)))) $
        nothing ! $ nothing ! $ fjoin ! $ nothing ! $ fjoin ! $ nothing ! $ fjoin ! $ move ! (1 ∷ 0 ∷ []) $ done !))))))))))

    -- at the machine values that the parameters have
    found : y.0.4.0 ≡ mut_vals y.0.3.0 → Seen 𝓛 1 y.0.0 kinds.ps y.0.3 y.0.4 → Goes y.0.4
    found lender seen =
        subst (λ (us : List Val). Goes (us, y.0.4.1)) (sym lender)
        (subst (λ (us : List Val). Goes (mut_vals y.0.3.0, (us, y.0.4.1.1))) (sym seen.1.0.1) (subst (λ (us : List Val). Goes (mut_vals y.0.3.0, (seen.1.0.0 ∷ [], (us, tt)))) (sym seen.1.1.0.1)
        (walks seen.1.0.0 seen.1.1.0.0 seen.1.0.4 seen.1.1.0.4)))

pub insert_spec : {M : Type 1} → statement M
insert_spec 𝓤 𝓛 𝓜 𝓡 wired =
    proved_at 𝓛 f.ended stayed (c 𝓤 𝓛 𝓜 𝓡 wired) 𝓜 𝓡 (go_p 𝓛 kinds.ps)
    key.name code.function (code.unfolded 𝓤 𝓛.H 𝓜 𝓡 wired)
    (λ y are. let Rs = types_at f.signature.params y.0.0 in let On : SProp 𝓤 = on_entry 𝓛 f.signature y.0.0 y.0.1 y.0.3 y.0.4 in
    fact_use 𝓤 (Seen 𝓛 1 y.0.0 kinds.ps y.0.3 y.0.4) (via 𝓤 (sem 𝓛 (owns Rs y.0.3 y.0.4)) (via 𝓤 On (fst∗ 𝓤 On ((c 𝓤 𝓛 𝓜 𝓡 wired y.0.0 y.0.3).requires y.1)) (snd∗ 𝓤 (alive 𝓛 f.signature y.0.0 y.0.1) (sem 𝓛 (owns Rs y.0.3 y.0.4))))
    (owns-Seen 𝓛 1 y.0.0 kinds.ps y.0.3 y.0.4)) (found 𝓤 𝓛 𝓜 𝓡 wired y are.0.0))
