-- The last receipt is the one at the end.
use Rattle.std.proofs.Common.{◌≡◌, ◌-◌, List, [], ◌∷◌, ◌++◌, Option, Some, length, length-append, refl, sym, ap, ◌∙◌, arith}
use Rattle.std.specs.Prelude.{slice_get}
use Rattle.rb_branch.specs.declared.receipt.Receipt.{Receipt}
use Rattle.rb_shadow.specs.declared.label.Label.{Label}
use Rattle.rb_shadow.specs.declared.op_name.OpName.{OpName}
use Rattle.rb_site.specs.declared.reply.Reply.{Reply}
use Rattle.rb_site.specs.declared.reply.Reply.TheVariants.{Made, Names, Held, Already, Taken, Stale, Applied, Passed, Balance}
use Rattle.rb_site.specs.declared.reply.Reply.TheVariants.{Refused, Statement}
use Rattle.rb_run_threads.specs.Tellers.{last_after}
use Rattle.rb_run_threads.proofs.teller.last_made.Goals as goal

-- the element at the end
at_end : {X : Type 0} (xs : List X) (x : X) → slice_get (xs ++ x ∷ []) (length xs) ≡ Some x
at_end [] x = refl
at_end (y ∷ xs) x = at_end xs x

last_is : {X : Type 0} (all xs : List X) (x : X) → all ≡ xs ++ x ∷ [] → slice_get all (length all - 1) ≡ Some x
last_is all xs x is =
    let e : length all - 1 ≡ length xs = omega (arith, ap length is, length-append xs (x ∷ [])) in
    (λ i. slice_get (is i) (e i)) ∙ at_end xs x

same_item : {X : Type 0} (x y : X) → Some x ≡ Some y → x ≡ y
same_item x y is = cc is

-- a reply that made nothing leaves the last name
not_made : (last : Option OpName) (reply : Reply) → ((x : OpName) (kind : Label) → ¬ (reply ≡ Made x kind)) → last ≡ last_after last reply
not_made last (Made x kind) none = absurd (none x kind refl)
not_made last (Names xs) none = refl
not_made last (Held x) none = refl
not_made last (Already x) none = refl
not_made last (Taken n) none = refl
not_made last (Stale n) none = refl
not_made last (Applied x) none = refl
not_made last (Passed n) none = refl
not_made last (Balance n) none = refl
not_made last (Statement s) none = refl
not_made last (Refused r) none = refl

pub returns-in-Made : goal.returns-in-Made
returns-in-Made g c = λ xs r is.
    let same : c.in-Some.receipt.now ≡ r =
    same_item _ _ (c.in-Some.ensures.value ∙ last_is c.receipts.result.now xs r (c.receipts.ensures.same ∙ is)) in
    ap (last_after c.args.last) (sym c.in-Made.is ∙ ap (λ (a : Receipt). a.reply) same)

pub returns-in_default : goal.returns-in_default
returns-in_default g c = λ xs r is.
    let same : c.in-Some.receipt.now ≡ r =
    same_item _ _ (c.in-Some.ensures.value ∙ last_is c.receipts.result.now xs r (c.receipts.ensures.same ∙ is)) in
    not_made c.args.last c.in-Some.receipt.now.reply c.in_default.not-Made ∙ ap (λ (a : Receipt). last_after c.args.last a.reply) same

pub returns-in-None : goal.returns-in-None
returns-in-None g c = λ xs r is. cc (c.in-None.ensures.value ∙ last_is c.receipts.result.now xs r (c.receipts.ensures.same ∙ is))
