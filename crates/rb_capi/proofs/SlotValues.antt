-- The machine value of a `Slot`, and what it owns. Assumes `Logic`.
use Rattle.std.proofs.Common.{◌≡◌, ℕ, List, [], ◌∷◌, ◌++◌, refl, subst}
use seplogic.Ra.Ura.{Ura}
use mir.Syntax.{impl, tnil, dnil}
use mir.Raw.{raw as bare}
use mir.Val.{Val, vstruct, of_list}
use base.Logic.{SProp, ent, guard, via, snd∗, guard_i}
use base.Fml.{ftrue}
use types.Logic.{Logic, sem}
use types.Kit.{Item, Goal, Seq, Step, step, ‵, given, ◌$◌, move, drop, fsplit, fjoin, fpick, fpack, feq_i, feq_l, use1, learn}
use contract.Monad.{fact_use}
use denote.RattleType.{RattleType, Valss}
use denote.Builtin.{RawPtr}
use denote.Memory.{lone}
use denote.RawPtr.{Ptr, block_ptr, null_ptr, ptr_val, lies_at, Testable}
use denote.Steps.{nothing}
use denote.Param.{layout}
use denote.Struct.Struct.{within}
use denote.Struct.Owning.{shape}
use Rattle.core.proofs.alloc.Calls.{Al, handle_tells}
use Rattle.core.proofs.cell.Inside.{Good}
use Rattle.std.specs.declared.option.Option.{Option}
use Rattle.std.specs.declared.option.Option.TheVariants.{None, Some}
use Rattle.std.specs.declared.alloc.Global.{Global}
use Rattle.std.specs.contracts.alloc.Global as heap
use Rattle.std.proofs.alloc.Global.TheLaws as heap_laws
use Rattle.std.specs.contracts.impls.GlobalAllocator.TheImpl.{ghosts}
use Rattle.std.proofs.GlobalToken.{dealloc_token-Testable}
use Rattle.std_alloc.specs.Box.Ownership.{box_owns}
use Rattle.rb_capi.specs.Slots.{slot_owns}
use Rattle.rb_capi.specs.contracts.slot.Slot as slot
use Rattle.rb_capi.proofs.RawBoxValues.{both}

-- the type of the global allocator
abbrev pub Z : RattleType
Z = heap.the_row

-- the global allocator, with its laws and its ghosts
abbrev pub al : Al
al = record { row = Z; laws = heap_laws.the_row_laws; g = ghosts; d = impl [] tnil dnil; drops = impl [] tnil dnil }

module _ (R : RattleType) where
  -- a slot, as its contract has it
  abbrev pub Slot : RattleType
  Slot = slot.the_row R

  -- what a box at a place owns
  abbrev pub boxed : Global → Ptr → R.Denot → base.Fml.Fml
  boxed a = box_owns (ghosts.dealloc_token a) R

  module _ {M : Type 1} {𝓤 : Ura M} (𝓛 : Logic 𝓤) where
    -- the pointer of a box may be compared with null
    pub tested : (a : Global) (p : Ptr) (x : R.Denot) → ent 𝓤 (sem 𝓛 (boxed a p x)) (guard 𝓤 (Testable p) (sem 𝓛 (boxed a p x)))
    tested a p x = let B : SProp 𝓤 = sem 𝓛 (boxed a p x) in
        fact_use 𝓤 (Testable p) (via 𝓤 _
        (snd∗ 𝓤 (sem 𝓛 (lies_at R base.Fraction.full_share p x)) (sem 𝓛 (ghosts.dealloc_token a (bare (lone R.mir)) p)))
        (dealloc_token-Testable 𝓛 a (bare (lone R.mir)) p)) (guard_i 𝓤 (Testable p) B)

  module _ {M : Type 1} {𝓤 : Ura M} {𝓛 : Logic 𝓤} {K : Type 0} {Γ : List (Item 𝓤)} {G : Goal 𝓤 𝓛.H} where
    -- a slot is taken apart: a pointer and an allocator, and what the slot owns
    pub slot_out : K → (d : Slot.Denot) (vs : List Val)
        → ((h : Val) → vs ≡ both (ptr_val d.at) h ∷ [] → Good (layout Z) h
        → Seq K 𝓛 (‵ (slot_owns R d.alloc d.at d.value) ∷ ‵ (Z.own_val d.alloc (h ∷ [])) ∷ Γ) G)
        → Seq K 𝓛 (‵ (Slot.own_val d vs) ∷ Γ) G
    slot_out t d vs k =
        fsplit t $ fpick t (λ vss. fsplit t $ feq_l t (λ ev. fsplit t $ feq_l t (λ ep. fsplit t $
        handle_tells al t d.alloc vss.1.0 (λ h ea fits. move t (1 ∷ []) $ drop t $ move t (1 ∷ []) $
        k h (subst (λ (ws : List Val). vs ≡ vstruct (of_list (ptr_val d.at ∷ (ws ++ []))) ∷ []) ea
        (subst (λ (ps : List Val). vs ≡ vstruct (of_list (ps ++ (vss.1.0 ++ []))) ∷ []) ep ev)) fits))))

    -- a pointer and an allocator, with what they own, are a slot
    pub slot_in : K → (p : Ptr) (h : Val) (a : Global) (x : Option R.Denot)
        → Step K 𝓛 (‵ (Slot.own_val (record { at = p; alloc = a; value = x }) (both (ptr_val p) h ∷ [])) ∷ Γ) G
        (‵ (slot_owns R a p x) ∷ ‵ (Z.own_val a (h ∷ [])) ∷ Γ) G
    slot_in t p h a x = step (λ s. let v : Val = both (ptr_val p) h in
        nothing t $ move t (2 ∷ 0 ∷ []) $ fjoin t $ feq_i t (List Val) (ptr_val p ∷ []) (ptr_val p ∷ []) refl $ fjoin t $
        feq_i t (List Val) (v ∷ []) (v ∷ []) refl $ fjoin t $
        fpack t (Valss (RawPtr ∷ Z ∷ [])) (within (shape (slot.the_type R)) (p, (heap.the_field.into a, tt)) (v ∷ [])) (
          ptr_val p ∷ [],
          (h ∷ [], tt),
        ) $ fjoin t $ s)

    -- a slot has nothing, and null, or a box, and a pointer into a block
    pub either_slot : K → (a : Global) (p : Ptr) (v : Option R.Denot) → (p ≡ null_ptr → v ≡ None → Seq K 𝓛 Γ G)
        → ((b o : ℕ) (x : R.Denot) → p ≡ block_ptr b o → v ≡ Some x → Testable (block_ptr b o)
        → Seq K 𝓛 (‵ (boxed a (block_ptr b o) x) ∷ Γ) G) → Seq K 𝓛 (‵ (slot_owns R a p v) ∷ Γ) G
    either_slot t a null_ptr None none one = drop t $ none refl refl
    either_slot t a null_ptr (Some x) none one = fpick t (λ wrong. absurd wrong)
    either_slot t a (block_ptr b o) None none one = fpick t (λ wrong. absurd wrong)
    either_slot t a (block_ptr b o) (Some x) none one = use1 𝓛 (given (Testable (block_ptr b o)) (‵ (boxed a (block_ptr b o) x)))
        (tested 𝓛 a (block_ptr b o) x) $ learn t (λ e. one b o x refl refl e)
