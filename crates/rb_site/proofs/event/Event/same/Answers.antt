-- Two events are equal just if they are of one variant, and what they hold is equal.
use Rattle.std.proofs.Common.{◌≡◌, ◌∙◌, sym, ℕ}
use Rattle.std.specs.Cmp.{unsigned_Decides}
use Rattle.rb_kit.specs.declared.list.List.{List}
use Rattle.rb_money.specs.declared.place.Place.{Place}
use Rattle.rb_shadow.specs.declared.op_name.OpName.{OpName}
use Rattle.rb_scratch.specs.declared.request.Request.{Request}
use Rattle.rb_site.specs.declared.message.Message.{Message}
use Rattle.rb_site.specs.declared.event.Event.TheVariants.{Submit, Batch, Receive, Apply, Pass, Balance, Statement}
use Rattle.rb_site.proofs.Variants.{apart, same_variant}
use Rattle.rb_site.proofs.event.Event.same.Goals as goal

submit_alone : (a b : Request) → Submit a ≡ Submit b → a ≡ b
submit_alone a b e = cc

batch_alone : (a b : List Request) → Batch a ≡ Batch b → a ≡ b
batch_alone a b e = cc

receive_alone : (a b : Message) → Receive a ≡ Receive b → a ≡ b
receive_alone a b e = cc

apply_alone : (a b : OpName) → Apply a ≡ Apply b → a ≡ b
apply_alone a b e = cc

pass_alone : (a b : ℕ) → Pass a ≡ Pass b → a ≡ b
pass_alone a b e = cc

balance_alone : (a b : Place) → Balance a ≡ Balance b → a ≡ b
balance_alone a b e = cc

statement_alone : (a b : Place) → Statement a ≡ Statement b → a ≡ b
statement_alone a b e = cc

pub returns-in-Submit-other : goal.returns-in-Submit-other
returns-in-Submit-other c = same_variant Submit submit_alone c.args.self.now c.args.other.now c.in-Submit.request
    c.in-Submit-other.it c.same_value.result c.in-Submit.is c.in-Submit-other.is c.same_value.ensures

pub returns-in-Batch-other : goal.returns-in-Batch-other
returns-in-Batch-other c = same_variant Batch batch_alone c.args.self.now c.args.other.now c.in-Batch.requests
    c.in-Batch-other.it c.same.result c.in-Batch.is c.in-Batch-other.is c.same.ensures

pub returns-in-Receive-other : goal.returns-in-Receive-other
returns-in-Receive-other c = same_variant Receive receive_alone c.args.self.now c.args.other.now c.in-Receive.message
    c.in-Receive-other.it c.same-in-Receive-other.result c.in-Receive.is c.in-Receive-other.is c.same-in-Receive-other.ensures

pub returns-in-Apply-other : goal.returns-in-Apply-other
returns-in-Apply-other c = same_variant Apply apply_alone c.args.self.now c.args.other.now c.in-Apply.name
    c.in-Apply-other.it c.same_value-in-Apply-other.result c.in-Apply.is c.in-Apply-other.is c.same_value-in-Apply-other.ensures

pub returns-in-Pass-other : goal.returns-in-Pass-other
returns-in-Pass-other c = same_variant Pass pass_alone c.args.self.now c.args.other.now c.in-Pass.to
    c.in-Pass-other.it _ c.in-Pass.is c.in-Pass-other.is (unsigned_Decides c.in-Pass.to c.in-Pass-other.it)

pub returns-in-Balance-other : goal.returns-in-Balance-other
returns-in-Balance-other c = same_variant Balance balance_alone c.args.self.now c.args.other.now c.in-Balance.place
    c.in-Balance-other.it c.same_place.result c.in-Balance.is c.in-Balance-other.is c.same_place.ensures

pub returns-in-Statement-other : goal.returns-in-Statement-other
returns-in-Statement-other c = same_variant Statement statement_alone c.args.self.now c.args.other.now c.in-Statement.place
    c.in-Statement-other.it c.same_place-in-Statement-other.result c.in-Statement.is c.in-Statement-other.is
    c.same_place-in-Statement-other.ensures

pub returns-in_default : goal.returns-in_default
returns-in_default c = apart c.args.self.now c.args.other.now (λ e. c.in_default.not-Submit _ (sym e ∙ c.in-Submit.is))

pub returns-in_default-other : goal.returns-in_default-other
returns-in_default-other c = apart c.args.self.now c.args.other.now (λ e. c.in_default-other.not-Batch _ (sym e ∙ c.in-Batch.is))

pub returns-in_default-other-2 : goal.returns-in_default-other-2
returns-in_default-other-2 c = apart c.args.self.now c.args.other.now (λ e. c.in_default-other-2.not-Receive _ (sym e ∙ c.in-Receive.is))

pub returns-in_default-other-3 : goal.returns-in_default-other-3
returns-in_default-other-3 c = apart c.args.self.now c.args.other.now (λ e. c.in_default-other-3.not-Apply _ (sym e ∙ c.in-Apply.is))

pub returns-in_default-other-4 : goal.returns-in_default-other-4
returns-in_default-other-4 c = apart c.args.self.now c.args.other.now (λ e. c.in_default-other-4.not-Pass _ (sym e ∙ c.in-Pass.is))

pub returns-in_default-other-5 : goal.returns-in_default-other-5
returns-in_default-other-5 c = apart c.args.self.now c.args.other.now (λ e. c.in_default-other-5.not-Balance _ (sym e ∙ c.in-Balance.is))

pub returns-in_default-other-6 : goal.returns-in_default-other-6
returns-in_default-other-6 c = apart c.args.self.now c.args.other.now (λ e. c.in_default-other-6.not-AsOf _ _ (sym e ∙ c.in-AsOf.is))

pub returns-in_default-other-7 : goal.returns-in_default-other-7
returns-in_default-other-7 c = apart c.args.self.now c.args.other.now
    (λ e. c.in_default-other-7.not-Statement _ (sym e ∙ c.in-Statement.is))
