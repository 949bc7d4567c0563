use Rattle.std.proofs.Common.{◌≡◌, ◌++◌, ℕ, List, [], ◌∷◌, true, false, codes, length, append_assoc, ap, sym, subst, ◌∙◌, arith}
use Rattle.std.specs.Prelude.{suc, Result, ◌==◌}
use Rattle.std.proofs.lemmas.Bool.{eqb-true}
use Rattle.rb_history.specs.Adds.{Adds}
use Rattle.rb_history.proofs.Public.Appended.{both, failed, then}
use Rattle.rb_node.proofs.AnswerTexts.{head_text}
use Rattle.rb_node.proofs.event_line.append_answer_head.Goals as goal

-- the parts of the text, one after another
parts : (front id : List ℕ) → ((front ++ codes "\"id\":\"") ++ id) ++ codes "\",\"reply\":"
    ≡ front ++ ((codes "\"id\":\"" ++ (id ++ codes "\",")) ++ codes "\"reply\":")
parts front id = simp append_assoc

-- the text, if there is an id
whole : {A E : Type 0} (r : Result A E) (front id old a new : List ℕ) → false ≡ (length id == 0)
    → a ≡ old ++ ((front ++ codes "\"id\":\"") ++ id) → Adds r a new (codes "\",\"reply\":") → Adds r old new (head_text front id)
whole r front [] old a new some is h = absurd (cc)
whole r front (x ∷ xs) old a new some is h = then r old a new _ (codes "\",\"reply\":") _ is h (parts front (x ∷ xs))

-- if there is none
whole_none : {A E : Type 0} (r : Result A E) (front id old new : List ℕ) → true ≡ (length id == 0)
    → Adds r old new (front ++ codes "\"reply\":") → Adds r old new (head_text front id)
whole_none r front [] old new is added = added
whole_none r front (x ∷ xs) old new is added =
    let some : suc (length xs) ≡ 0 = eqb-true (length (x ∷ xs)) 0 (sym is) in absurd (omega arith)

pub returns-clause-added : goal.returns-clause-added
returns-clause-added c =
    let old = c.args.out.now.items in
    let two = both old c.append-2.new.out.items c.append-3.new.out.items c.args.front.now (codes "\"id\":\"") c.in_ok-append.ensures
    c.in_ok-append-2.ensures in
    whole c.append-4.result c.args.front.now c.args.id.now old c.extend_from_slice.new.self.items c.append-4.new.out.items
    (c.if-is_empty.ensures ∙ ap (λ (l : List ℕ). length l == 0) c.as_bytes-bytes.ensures.same)
    (both old c.append-3.new.out.items c.extend_from_slice.new.self.items _ c.args.id.now two
    (c.in_ok-extend_from_slice.ensures.items ∙ ap (λ l. c.append-3.new.out.items ++ l) c.as_bytes-bytes.ensures.same)) c.append-4.ensures

pub returns-then-is_empty-clause-added : goal.returns-then-is_empty-clause-added
returns-then-is_empty-clause-added c = whole_none c.append.result c.args.front.now c.args.id.now c.args.out.now.items
    c.append.new.out.items (c.if-is_empty.ensures ∙ ap (λ (l : List ℕ). length l == 0) c.as_bytes-bytes.ensures.same)
    (subst (λ l. Adds c.append.result c.args.out.now.items c.append.new.out.items l) c.requires c.append.ensures)

pub returns-in_err-append-2-clause-added : goal.returns-in_err-append-2-clause-added
returns-in_err-append-2-clause-added c = failed c.from_residual-in_err-append-2.result c.args.out.now.items c.append-2.new.out.items
    c.append-3.new.out.items _ _ c.from_residual-in_err-append-2.ensures.0 c.in_ok-append.ensures c.in_err-append-2.ensures
