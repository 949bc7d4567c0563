use Rattle.rb_ledger.proofs.Words.{◌≡◌, ◌<◌, ◌≤◌, ◌-◌, ◌∷◌, [], List, length, take, get_or, set, subst, sym, ap, ◌∙◌}
use Rattle.rb_ledger.proofs.Words.{refl, arith, length-take-le, length_push, HasEntry, number_of, entry_of, target_of}
use Rattle.rb_ledger.proofs.Words.{row_of, UndoParts, lowered, Cancels, position_of, changed_at, one_less, no_cancels}
use Rattle.rb_ledger.proofs.Words.{heads_at}
use Rattle.rb_ledger.proofs.CancelReads
use Rattle.rb_ledger.proofs.CancelFacts
use Rattle.rb_ledger.proofs.Indexed
use Rattle.rb_ledger.proofs.Public.Legal
use Rattle.rb_ledger.proofs.LedgerClocks
use Rattle.rb_ledger.proofs.index.Index.pop.Goals as goal

pub retreat-requires-clause-last : goal.retreat-requires-clause-last
retreat-requires-clause-last c =
    let (last, index, is, link) = c.requires in
    subst (λ x. number_of x ≡ entry_of c.args.self.now.clock x) (sym (ap (λ (p : UndoParts). p.name) is))
    (LedgerClocks.last_number _ c.args.before.now _ last index.clocked)

pub retreat-requires-clause-positive : goal.retreat-requires-clause-positive
retreat-requires-clause-positive c =
    let (last, index, is, link) = c.requires in
    subst (λ x. 1 ≤ number_of x) (sym (ap (λ (p : UndoParts). p.name) is))
    (LedgerClocks.last_positive _ c.args.before.now _ last index.clocked)

pub retreat-requires-clause-entry : goal.retreat-requires-clause-entry
retreat-requires-clause-entry c =
    let (last, index, is, link) = c.requires in
    subst HasEntry (sym (ap (λ (p : UndoParts). p.name) is)) (LedgerClocks.last_entry _ c.args.before.now _ last index.clocked)

pub pop-requires : goal.pop-requires
pop-requires c =
    let (last, index, is, link) = c.requires in
    omega (
      arith,
      c.row.ensures,
      ap (λ (p : UndoParts). row_of p.name) is,
      Indexed.row_within _ _ _ last index.rows (Legal.IsValid-last _ c.args.before.now last index.clocked.valid).sound,
    )

pub cancel_one_less-requires-clause-within : goal.cancel_one_less-requires-clause-within
cancel_one_less-requires-clause-within c =
    let before = c.args.before.now in
    let (last, index, is, link) = c.requires in
    let target : c.args.parts.target ≡ position_of before (target_of last.kind) = ap (λ (p : UndoParts). p.target) is in
    let kept : length (take (length before) c.args.self.now.cancels.items) ≡ length before =
    length-take-le (length before) c.args.self.now.cancels.items (omega (
      arith,
      CancelReads.all_counts _ _ index.cancels,
      length_push before last,
    )) in
    omega (
      arith,
      target,
      CancelFacts.target_within before last
          (Legal.IsValid-last _ before last index.clocked.valid).target,
      ap length (c.truncate.ensures.items ∙ ap (λ n. take n c.args.self.now.cancels.items) c.len.ensures),
      kept,
    )

pub cancel_one_less-requires-clause-some : goal.cancel_one_less-requires-clause-some
cancel_one_less-requires-clause-some c =
    let (last, index, is, link) = c.requires in
    let may = Legal.IsValid-last _ c.args.before.now last index.clocked.valid in
    let before = Legal.IsValid-front _ c.args.before.now (last ∷ []) index.clocked.valid in
    let target : c.args.parts.target ≡ position_of c.args.before.now (target_of last.kind) = ap (λ (p : UndoParts). p.target) is in
    λ i at. subst (λ (xs : List Cancels). 0 < (get_or xs i no_cancels).count)
    (sym (c.truncate.ensures.items ∙ ap (λ n. take n c.args.self.now.cancels.items) c.len.ensures))
    (CancelFacts.counted_before c.args.before.now last _ i before.unique before.targets may.fresh may.target index.cancels (sym target
    ∙ at))

pub returns-clause-index : goal.returns-clause-index
returns-clause-index c =
    let (last, index, is, linked) = c.requires in
    let target : c.args.parts.target ≡ position_of c.args.before.now (target_of last.kind) = ap (λ (p : UndoParts). p.target) is in
    let row : c.row.result ≡ row_of last.name = c.row.ensures ∙ ap (λ (p : UndoParts). row_of p.name) is in
    Indexed.indexed_front _ c.args.before.now c.args.self.now _ last c.args.links.now index
    linked
    refl (c.retreat.ensures.entries ∙ ap (λ (p : UndoParts). lowered c.args.self.now.clock p.name) is)
    (c.cancel_one_less.ensures.items ∙ ap (changed_at c.args.parts.target one_less)
    (c.truncate.ensures.items ∙ ap (λ n. take n c.args.self.now.cancels.items) c.len.ensures)
    ∙ ap (λ n. changed_at n one_less (take (length c.args.before.now) c.args.self.now.cancels.items)) target)
    (
    c.set_head-2.ensures ∙ ap (heads_at c.args.parts.other.0 (record {
      last = c.args.links.now.other.earlier;
      balance = c.args.parts.other_balance;
    })) c.set_head.ensures
    ∙ ap (λ (p : UndoParts). heads_at p.other.0 (record { last = c.args.links.now.other.earlier; balance = p.other_balance })
    (heads_at p.place.0 (record { last = c.args.links.now.own.earlier; balance = p.balance }) c.args.self.now.heads.items)) is
    )
    (c.pop.ensures.rows ∙ ap (λ j. set c.args.self.now.rows.rows j (take (length (get_or c.args.self.now.rows.rows j []) - 1)
    (get_or c.args.self.now.rows.rows j []))) row)
