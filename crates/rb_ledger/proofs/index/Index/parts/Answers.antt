use Rattle.rb_ledger.proofs.Words.{◌≡◌, get_or, ap, ◌∙◌, arith, option_map, unwrap_or, cents, Place, NOWHERE, target_of}
use Rattle.rb_ledger.proofs.Words.{other_of, bal, no_head, position_of}
use Rattle.rb_ledger.proofs.HeadReads
use Rattle.rb_ledger.proofs.Public.Legal
use Rattle.rb_ledger.proofs.Lengths
use Rattle.rb_ledger.proofs.Overdraws
use Rattle.rb_ledger.proofs.index.Index.parts.Goals as goal

pub overflow_cast-result : goal.overflow_cast-result
overflow_cast-result c = omega (arith, Lengths.clocked_length _ _ _ c.requires.index.clocked)

pub overflow_add-result : goal.overflow_add-result
overflow_add-result c = omega (arith, Lengths.clocked_length _ _ _ c.requires.index.clocked)

pub returns : goal.returns
returns c =
    let h = c.args.shadow.now in
    let before = c.args.before.now in
    let near = Overdraws.sound_account c.args.self.now.config h
    (Legal.IsValid-last _ _ h c.requires.longer).sound in
    let balance : c.balance-balance.result ≡ cents (bal c.args.self.now.config before h.account) =
    HeadReads.head_balance _ _ _ h.account _ c.requires.index.heads near c.balance-balance.ensures in
    let other : c.unwrap_or-other.result ≡ unwrap_or (other_of before h.kind) NOWHERE =
    c.unwrap_or-other.ensures ∙ ap (λ o. unwrap_or o NOWHERE) c.other_at-second.ensures in
    let other_balance : c.balance-other_balance.result ≡ unwrap_or (option_map (λ a. cents (bal c.args.self.now.config before a))
    (other_of before h.kind)) 0 =
    HeadReads.other_balance _ _ _ _ h _ c.requires.index.clocked.configured c.requires.index.clocked c.requires.index.heads
    c.requires.longer
    (c.balance-other_balance.ensures ∙ ap (λ (a : Place). (get_or c.args.self.now.heads.items a.0 no_head).balance) other) in
    let target : c.target-target.result ≡ position_of before (target_of h.kind) =
    c.target-target.ensures before c.requires.index in
    cc

pub other_at-second-requires : goal.other_at-second-requires
other_at-second-requires c = c.target-target.ensures c.args.before.now c.requires.index
