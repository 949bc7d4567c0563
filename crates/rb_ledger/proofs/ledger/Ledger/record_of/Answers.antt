use Rattle.rb_ledger.proofs.Words.{◌≡◌, ◌+◌, ◌-◌, length, take, ap, ◌∙◌, option_map, unwrap_or, cents, NOWHERE}
use Rattle.rb_ledger.proofs.Words.{target_of, other_of, bal, Book, position_of}
use Rattle.rb_ledger.proofs.RecordReads
use Rattle.rb_ledger.proofs.SeenLists
use Rattle.rb_ledger.proofs.ledger.Ledger.record_of.Goals as goal

pub second_before-other_balance-requires-clause-on : goal.second_before-other_balance-requires-clause-on
second_before-other_balance-requires-clause-on c =
    let index = SeenLists.seen _ _ _ _ c.self.invariant.index c.self.view_is in
    let here = c.all.ensures ∙ ap (λ (b : Book). b.entries) c.self.view_is in
    RecordReads.second_on _ c.args.position c.args.entry.now _ c.requires
    (RecordReads.second_before _ _ _ c.args.position _ _ index.clocked.valid c.requires here c.other-second.ensures)

pub returns : goal.returns
returns c =
    let h = c.args.entry.now in
    let before = take (c.args.position - 1) c.args.self.now.entries in
    let index = SeenLists.seen _ _ _ _ c.self.invariant.index c.self.view_is in
    let here = ap (λ (b : Book). b.entries) c.self.view_is in
    let second : c.other-second.result ≡ other_of before h.kind =
    RecordReads.second_before _ _ _ c.args.position h _ index.clocked.valid c.requires (c.all.ensures ∙ here)
    c.other-second.ensures in
    let position : c.args.position ≡ length before + 1 = RecordReads.entry_after _ c.args.position h c.requires in
    let target : c.target.result ≡ position_of before (target_of h.kind) =
    RecordReads.target_before _ _ _ c.args.position _ h index.clocked.valid c.requires here
    (c.target.ensures c.self.inside.entries.items c.self.invariant.index) in
    let other : c.unwrap_or.result ≡ unwrap_or (other_of before h.kind) NOWHERE =
    c.unwrap_or.ensures ∙ ap (λ o. unwrap_or o NOWHERE) second in
    let balance = c.balance_before-balance.ensures in
    let other_balance : c.second_before-other_balance.result ≡ unwrap_or (option_map (λ a. cents (bal c.args.self.now.settings before a))
    (other_of before h.kind)) 0 =
    c.second_before-other_balance.ensures
    ∙ ap (λ o. unwrap_or (option_map (λ a. cents (bal c.args.self.now.settings before a)) o) 0) second in
    cc
