-- Two replies are equal just if they are of one variant, and what they hold is equal.
use Rattle.std.proofs.Common.{◌≡◌, ◌∙◌, sym, ℕ}
use Rattle.std.specs.Cmp.{unsigned_Decides}
use Rattle.rb_kit.specs.declared.list.List.{List}
use Rattle.rb_money.specs.declared.refusal.Refusal.{Refusal}
use Rattle.rb_shadow.specs.declared.op_name.OpName.{OpName}
use Rattle.rb_statements.specs.declared.account.Statement.{Statement as Shown}
use Rattle.rb_site.specs.declared.reply.Reply.TheVariants.{Names, Held, Already, Taken, Stale, Applied, Passed, Balance, Statement, Refused}
use Rattle.rb_site.proofs.Variants.{apart, same_variant}
use Rattle.rb_site.proofs.reply.Reply.same.Goals as goal

names_alone : (a b : List OpName) → Names a ≡ Names b → a ≡ b
names_alone a b e = cc

held_alone : (a b : OpName) → Held a ≡ Held b → a ≡ b
held_alone a b e = cc

already_alone : (a b : OpName) → Already a ≡ Already b → a ≡ b
already_alone a b e = cc

taken_alone : (a b : ℕ) → Taken a ≡ Taken b → a ≡ b
taken_alone a b e = cc

stale_alone : (a b : ℕ) → Stale a ≡ Stale b → a ≡ b
stale_alone a b e = cc

applied_alone : (a b : OpName) → Applied a ≡ Applied b → a ≡ b
applied_alone a b e = cc

passed_alone : (a b : ℕ) → Passed a ≡ Passed b → a ≡ b
passed_alone a b e = cc

balance_alone : (a b : ℕ) → Balance a ≡ Balance b → a ≡ b
balance_alone a b e = cc

statement_alone : (a b : Shown) → Statement a ≡ Statement b → a ≡ b
statement_alone a b e = cc

refused_alone : (a b : Refusal) → Refused a ≡ Refused b → a ≡ b
refused_alone a b e = cc

pub returns-in-Names-other : goal.returns-in-Names-other
returns-in-Names-other c = same_variant Names names_alone c.args.self.now c.args.other.now c.in-Names.names
    c.in-Names-other.it c.same.result c.in-Names.is c.in-Names-other.is c.same.ensures

pub returns-in-Held-other : goal.returns-in-Held-other
returns-in-Held-other c = same_variant Held held_alone c.args.self.now c.args.other.now c.in-Held.name
    c.in-Held-other.it c.same_value-in-Held-other.result c.in-Held.is c.in-Held-other.is c.same_value-in-Held-other.ensures

pub returns-in-Already-other : goal.returns-in-Already-other
returns-in-Already-other c = same_variant Already already_alone c.args.self.now c.args.other.now c.in-Already.name
    c.in-Already-other.it c.same_value-in-Already-other.result c.in-Already.is c.in-Already-other.is c.same_value-in-Already-other.ensures

pub returns-in-Taken-other : goal.returns-in-Taken-other
returns-in-Taken-other c = same_variant Taken taken_alone c.args.self.now c.args.other.now c.in-Taken.epoch
    c.in-Taken-other.it _ c.in-Taken.is c.in-Taken-other.is (unsigned_Decides c.in-Taken.epoch c.in-Taken-other.it)

pub returns-in-Stale-other : goal.returns-in-Stale-other
returns-in-Stale-other c = same_variant Stale stale_alone c.args.self.now c.args.other.now c.in-Stale.epoch
    c.in-Stale-other.it _ c.in-Stale.is c.in-Stale-other.is (unsigned_Decides c.in-Stale.epoch c.in-Stale-other.it)

pub returns-in-Applied-other : goal.returns-in-Applied-other
returns-in-Applied-other c = same_variant Applied applied_alone c.args.self.now c.args.other.now c.in-Applied.name
    c.in-Applied-other.it c.same_value-in-Applied-other.result c.in-Applied.is c.in-Applied-other.is c.same_value-in-Applied-other.ensures

pub returns-in-Passed-other : goal.returns-in-Passed-other
returns-in-Passed-other c = same_variant Passed passed_alone c.args.self.now c.args.other.now c.in-Passed.epoch
    c.in-Passed-other.it _ c.in-Passed.is c.in-Passed-other.is (unsigned_Decides c.in-Passed.epoch c.in-Passed-other.it)

pub returns-in-Balance-other : goal.returns-in-Balance-other
returns-in-Balance-other c = same_variant Balance balance_alone c.args.self.now c.args.other.now c.in-Balance.cents
    c.in-Balance-other.it _ c.in-Balance.is c.in-Balance-other.is (unsigned_Decides c.in-Balance.cents c.in-Balance-other.it)

pub returns-in-Statement-other : goal.returns-in-Statement-other
returns-in-Statement-other c = same_variant Statement statement_alone c.args.self.now c.args.other.now c.in-Statement.statement
    c.in-Statement-other.it c.same-in-Statement-other.result c.in-Statement.is c.in-Statement-other.is c.same-in-Statement-other.ensures

pub returns-in-Refused-other : goal.returns-in-Refused-other
returns-in-Refused-other c = same_variant Refused refused_alone c.args.self.now c.args.other.now c.in-Refused.why
    c.in-Refused-other.it c.same_refusal.result c.in-Refused.is c.in-Refused-other.is c.same_refusal.ensures

pub returns-in_default : goal.returns-in_default
returns-in_default c = apart c.args.self.now c.args.other.now (λ e. c.in_default.not-Made _ _ (sym e ∙ c.in-Made.is))

pub returns-in_default-other : goal.returns-in_default-other
returns-in_default-other c = apart c.args.self.now c.args.other.now (λ e. c.in_default-other.not-Names _ (sym e ∙ c.in-Names.is))

pub returns-in_default-other-2 : goal.returns-in_default-other-2
returns-in_default-other-2 c = apart c.args.self.now c.args.other.now (λ e. c.in_default-other-2.not-Held _ (sym e ∙ c.in-Held.is))

pub returns-in_default-other-3 : goal.returns-in_default-other-3
returns-in_default-other-3 c = apart c.args.self.now c.args.other.now (λ e. c.in_default-other-3.not-Already _ (sym e ∙ c.in-Already.is))

pub returns-in_default-other-4 : goal.returns-in_default-other-4
returns-in_default-other-4 c = apart c.args.self.now c.args.other.now (λ e. c.in_default-other-4.not-Taken _ (sym e ∙ c.in-Taken.is))

pub returns-in_default-other-5 : goal.returns-in_default-other-5
returns-in_default-other-5 c = apart c.args.self.now c.args.other.now (λ e. c.in_default-other-5.not-Stale _ (sym e ∙ c.in-Stale.is))

pub returns-in_default-other-6 : goal.returns-in_default-other-6
returns-in_default-other-6 c = apart c.args.self.now c.args.other.now (λ e. c.in_default-other-6.not-Applied _ (sym e ∙ c.in-Applied.is))

pub returns-in_default-other-7 : goal.returns-in_default-other-7
returns-in_default-other-7 c = apart c.args.self.now c.args.other.now (λ e. c.in_default-other-7.not-Passed _ (sym e ∙ c.in-Passed.is))

pub returns-in_default-other-8 : goal.returns-in_default-other-8
returns-in_default-other-8 c = apart c.args.self.now c.args.other.now (λ e. c.in_default-other-8.not-Balance _ (sym e ∙ c.in-Balance.is))

pub returns-in_default-other-9 : goal.returns-in_default-other-9
returns-in_default-other-9 c = apart c.args.self.now c.args.other.now
    (λ e. c.in_default-other-9.not-Statement _ (sym e ∙ c.in-Statement.is))

pub returns-in_default-other-10 : goal.returns-in_default-other-10
returns-in_default-other-10 c = apart c.args.self.now c.args.other.now (λ e. c.in_default-other-10.not-Refused _ (sym e ∙ c.in-Refused.is))
