-- `none` makes a null pointer.
use Rattle.std.proofs.Common.{◌≡◌, List, [], ◌∷◌, ◌++◌, refl, sym, subst, lit<}
use mir.Syntax.{a_type}
use mir.Val.{Val, has_ty}
use mir.MapTy.{inst_fn}
use base.Logic.{SProp, ent, emp, id⊢}
use prog.Wp.{WpFn}
use types.Kit.{‵, raw, ◌⊛◌, ◌$◌, ◌∵◌, !, qed, by, move, keep, split, fsplit, fjoin, suffices, rewrite, use0}
use types.Run.{lit, no_more, and_then, returns, enter}
use types.ByLocal.{alloc_all, pass_all, free_all, look_at, get, sets}
use types.Part.{agg}
use contract.Monad.{fact, fact_i}
use contract.Running.{tables}
use denote.Exit.{yes}
use denote.RattleType.{RattleType, owns}
use denote.Signature.{types_at, type_at, plain}
use denote.RawPtr.{null_ptr, ptr_val}
use denote.Steps.{nothing}
use denote.Param.{param, layout, layouts}
use denote.Triple.Entry.{alive}
use denote.Triple.Walked.{Stays, stay_dropped, walk_of, Goes-dropped}
use Rattle.core.proofs.cell.Inside.{Good, one}
use Rattle.std.specs.contracts.alloc.Global as heap
use Rattle.std.proofs.alloc.Global.TheLaws as heap_laws
use Rattle.std.specs.declared.option.Option.TheVariants.{None}
use Rattle.std_alloc.proofs.ResultValues.{and_tt}
use Rattle.std.proofs.raw_atomic.Walks.{proved_at, leaves}
use Rattle.rb_capi.proofs.RawBoxValues.{both}
use Rattle.rb_capi.proofs.SlotValues.{Slot, slot_in}
use Rattle.rb_capi.specs.contracts.slot.Slot.none.{ended, clauses}
use Rattle.rb_capi.specs.contracts.slot.Slot.none.Key.{name as #self}
use Rattle.rb_capi.proofs.slot.Slot.none.Statement.{statement}
use Rattle.rb_capi.proofs.slot.Slot.none.Code as code

pub none_spec : {M : Type 1} → statement M
none_spec 𝓤 𝓛 𝓜 𝓡 wired T L =
    let H = 𝓛.H in let 𝓣 = tables 𝓤 H 𝓜 𝓡 𝓡.env in let R : RattleType = param 0 T in let En = ended T in
    let c = clauses T 𝓛 𝓜.mem 𝓡.returns in
    let inst = layouts (a_type ∷ []) (T, tt) in let fn = inst_fn inst code.function in let Z : RattleType = heap.the_row in
    let LZ = heap_laws.the_row_laws in
    let hs : Stays En.signature.params En.kept = (stay_dropped (plain (λ _. Z)) yes, tt) in
    proved_at 𝓛 En hs c 𝓜 𝓡 (Goes-dropped 𝓛 1 (plain (λ _. Z)) yes (λ κs x f. refl), tt) (#self inst) fn
    (code.unfolded 𝓤 H 𝓜 𝓡 wired (T, tt)) (λ z are.
    let κs = z.0.0 in let qs = z.0.1 in let Post : Val → SProp 𝓤 = (walk_of 𝓛 En hs c).post z in let Run : List Val
    → SProp 𝓤 = λ ws. WpFn 𝓤 H 𝓣.C 𝓣.Λ fn ws Post in let Out : RattleType = type_at En.signature.result κs in
    let a = z.0.3.0 in let h = one (layout Z) z.0.4.0 ((LZ.lawful 𝓛).typed a z.0.4.0 are.0) in
    let w : Val = both (ptr_val null_ptr) h.0 in
    let r : (Slot R).Denot = record { at = null_ptr; alloc = a; value = None } in
    let good : Good (layout Out) w = (and_tt (has_ty (layout Z) h.0) h.2.0, (record { fits = lit< tt }, (h.2.1, tt))) in
    qed 𝓛 ((raw (alive 𝓛 En.signature κs qs) ⊛ ‵ (owns (types_at En.signature.params κs) z.0.3 z.0.4)) ∷ raw ((c κs z.0.3).requires z.1)
    ∷ []) ∵
    split ! $ move ! (1 ∷ []) $ fsplit ! $ rewrite ! 0 (λ (us : List Val). ‵ (Z.own_val a us)) h.1 refl $ nothing ! $
    slot_in R ! null_ptr h.0 a None $
    suffices ! (Run (h.0 ∷ [])) (subst (λ (us : List Val). ent 𝓤 (Run (h.0 ∷ [])) (Run us)) (sym (λ i. h.1 i ++ []))
    (id⊢ 𝓤 (Run (h.0 ∷ [])))) $
    enter ! 𝓣.C 𝓣.Λ fn (h.0 ∷ []) Post $ alloc_all ! (λ l. pass_all ! refl (h.2, tt) $
    sets ! (agg ! (and_then ! (lit ! tt) (and_then ! (get ! refl) (no_more !)))) refl good $
    use0 𝓛 (raw (fact 𝓤 (r.value ≡ None))) (fact_i 𝓤 (r.value ≡ None) (emp 𝓤) refl) $ nothing ! $ nothing ! $ fjoin ! $
    returns ! (look_at ! 0 refl) $ free_all ! refl $ keep ! (4 ∷ 0 ∷ 2 ∷ 1 ∷ []) $ by ! (leaves 𝓛 En hs c z w r (tt, tt) (tt, tt))))
