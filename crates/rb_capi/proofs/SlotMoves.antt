-- A function that keeps a slot's pointer and allocator, and what they own, as a value of another type. Assumes `Logic`.
use Rattle.std.proofs.Common.{◌≡◌, List, [], ◌∷◌, ◌++◌, refl, sym, subst}
use seplogic.Ra.Ura.{Ura}
use mir.Syntax.{Sym, Ty, ty_ptr, ty_struct, tnil, tcons, Fn, Callee, local, value_local, assign, place, field, rv_opd, copy}
use mir.Syntax.{aggregate, return, seq}
use mir.Val.{Val, has_ty}
use base.Logic.{SProp, ent, emp, id⊢}
use prog.Model.{Model}
use prog.Wp.{WpFn, Closed}
use types.Logic.{Logic, sem}
use types.Kit.{‵, raw, ◌⊛◌, ◌$◌, ◌∵◌, !, qed, by, move, keep, split, fsplit, fjoin, suffices, use0, use1}
use types.Run.{stop, fld, of_opd, no_more, and_then, returns, enter}
use types.ByLocal.{alloc_all, pass_all, free_all, look_at, get, get_in, sets}
use types.Part.{agg, sub, whole}
use contract.Lifetimes.{Lfts}
use contract.Monad.{fact, fact_i}
use contract.Running.{Running, tables}
use denote.Exit.{Last, yes}
use denote.RattleType.{RattleType, owns}
use denote.Signature.{types_at, plain}
use denote.RawPtr.{ptr_val}
use denote.Steps.{nothing}
use denote.Param.{layout}
use denote.Triple.Clauses.{Ended, Clauses, closing}
use denote.Triple.Entry.{alive}
use denote.Triple.Spec.{Meets}
use denote.Triple.Walked.{Stays, stay_dropped, walk_of, Silent, Goes-dropped}
use Rattle.core.proofs.atomic.Steps.{Ptr-Good}
use Rattle.core.proofs.cell.Inside.{Good}
use Rattle.std.specs.declared.option.Option.{Option}
use Rattle.std.proofs.raw_atomic.Walks.{proved_at, leaves}
use Rattle.rb_capi.proofs.RawBoxValues.{both, both_tt}
use Rattle.rb_capi.proofs.SlotValues.{Z, Slot, slot_in, slot_out}

-- a struct of a pointer and the global allocator
abbrev pub pair : Sym → Ty
pair name = ty_struct name (tcons ty_ptr (tcons (layout Z) tnil))

-- the code of such a function, by the names of the two structs
abbrev pub moves : Sym → Sym → Fn
moves a b = record {
  lifetimes = 0;
  outlives = [];
  ty_params = [];
  givens = 0;
  params = 1;
  locals = local (pair b) value_local ∷ local (pair a) value_local ∷ local ty_ptr value_local
      ∷ local (layout Z) value_local ∷ local ty_ptr value_local ∷ [];
  body = seq (assign (place 2 []) (rv_opd (copy (place 1 (field 0 ∷ [])))))
      (seq (assign (place 3 []) (rv_opd (copy (place 1 (field 1 ∷ [])))))
      (seq (assign (place 4 []) (rv_opd (copy (place 2 []))))
      (seq (assign (place 0 []) (aggregate (copy (place 4 []) ∷ copy (place 3 []) ∷ []))) return)));
}

module _ (R A B : RattleType) (seen : A.Denot → (Slot R).Denot) (made : (Slot R).Denot → B.Denot) (value : B.Denot → Option R.Denot)
    (out : (d : A.Denot) (vs : List Val) → A.own_val d vs ≡ (Slot R).own_val (seen d) vs)
    (into : (x : (Slot R).Denot) (vs : List Val) → (Slot R).own_val x vs ≡ B.own_val (made x) vs)
    (same : (x : (Slot R).Denot) → value (made x) ≡ x.value)
    (last : (κs : Lfts 0) (x : A.Denot) → Last (((plain {n = 0} (λ _. A)).row κs).exit yes) x) where
  abbrev pub ended : Ended
  ended = record {
    signature = record { lifetimes = 0; outlives = []; params = plain (λ _. A) ∷ []; result = plain (λ _. B) };
    kept = (yes, tt);
  }

  module _ {M : Type 1} (𝓤 : Ura M) (𝓛 : Logic 𝓤) where
    abbrev pub clauses : Clauses 𝓤 ended
    clauses κs a = record { ghost = Unit {0}; requires = λ _. emp 𝓤; ensures = λ _ r _. fact 𝓤 (value r ≡ (seen a.0).value) }

    -- it keeps what is kept
    pub moved : Silent 𝓛 0 (plain (λ _. A)) yes → (a b : Sym) (𝓜 : Model 𝓤 𝓛.H) (𝓡 : Running 𝓤 𝓛.H 𝓜) (k : Callee)
        → Closed 𝓤 𝓛.H (tables 𝓤 𝓛.H 𝓜 𝓡 𝓡.env).C (tables 𝓤 𝓛.H 𝓜 𝓡 𝓡.env).Λ k (moves a b)
        → Meets 𝓛 ended.signature ((tables 𝓤 𝓛.H 𝓜 𝓡 𝓡.env).C k) (closing 𝓛 ended clauses)
    moved gone a b 𝓜 𝓡 k unfolded =
        let H = 𝓛.H in let 𝓣 = tables 𝓤 H 𝓜 𝓡 𝓡.env in let En = ended in let c = clauses in let fn = moves a b in
        let hs : Stays En.signature.params En.kept = (stay_dropped (plain (λ _. A)) yes, tt) in
        proved_at 𝓛 En hs c 𝓜 𝓡 (Goes-dropped 𝓛 0 (plain (λ _. A)) yes gone, tt) k fn unfolded (λ z are.
        let κs = z.0.0 in let qs = z.0.1 in let s = seen z.0.3.0 in let Post : Val → SProp 𝓤 = (walk_of 𝓛 En hs c).post z in
        let Run : List Val → SProp 𝓤 = λ ws. WpFn 𝓤 H 𝓣.C 𝓣.Λ fn ws Post in
        let vs = z.0.4.0 in
        qed 𝓛 ((raw (alive 𝓛 En.signature κs qs) ⊛ ‵ (owns (types_at En.signature.params κs) z.0.3 z.0.4))
        ∷ raw ((c κs z.0.3).requires z.1) ∷ []) ∵ split ! $ move ! (1 ∷ []) $ fsplit ! $
        use1 𝓛 (‵ ((Slot R).own_val s vs)) (subst (λ F. ent 𝓤 (sem 𝓛 (A.own_val z.0.3.0 vs)) (sem 𝓛 F)) (out z.0.3.0 vs) (id⊢ 𝓤 _)) $
        slot_out R ! s vs (λ h ws fits.
        let w : Val = both (ptr_val s.at) h in let ptr = Ptr-Good s.at in
        let typed : Good (pair a) w = (
          both_tt (has_ty ty_ptr (ptr_val s.at)) (has_ty (layout Z) h) ptr.0 fits.0,
          (
            ptr.1,
            (fits.1, tt),
          ),
        ) in
        let r : (Slot R).Denot = record { at = s.at; alloc = s.alloc; value = s.value } in
        slot_in R ! s.at h s.alloc s.value $
        let us = w ∷ [] in
        use1 𝓛 (‵ (B.own_val (made r) us)) (subst (λ F. ent 𝓤 (sem 𝓛 ((Slot R).own_val r us)) (sem 𝓛 F)) (into r us) (id⊢ 𝓤 _)) $
        suffices ! (Run us) (subst (λ (xs : List Val). ent 𝓤 (Run us) (Run xs)) (sym (λ i. ws i ++ [])) (id⊢ 𝓤 (Run us))) $
        enter ! 𝓣.C 𝓣.Λ fn us Post $ alloc_all ! (λ l. pass_all ! refl (typed, tt) $
        sets ! (of_opd ! (get_in ! (fld ! refl (stop !)) (sub ! 0 refl (whole !)))) refl ptr $
        sets ! (of_opd ! (get_in ! (fld ! refl (stop !)) (sub ! 1 refl (whole !)))) refl fits $
        sets ! (of_opd ! (get ! refl)) refl ptr $
        sets ! (agg ! (and_then ! (get ! refl) (and_then ! (get ! refl) (no_more !)))) refl typed $
        use0 𝓛 (raw (fact 𝓤 (value (made r) ≡ s.value))) (fact_i 𝓤 (value (made r) ≡ s.value) (emp 𝓤) (same r)) $
        nothing ! $ nothing ! $ fjoin ! $ returns ! (look_at ! 0 refl) $ free_all ! refl $ keep ! (4 ∷ 0 ∷ 2 ∷ 1 ∷ []) $
        by ! (leaves 𝓛 En hs c z w (made r) (last κs z.0.3.0, tt) (tt, tt)))))
