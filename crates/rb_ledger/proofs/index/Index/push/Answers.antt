use Rattle.rb_ledger.proofs.Words.{◌++◌, ◌∷◌, [], get_or, set, ap, ◌∙◌, refl, arith, row_of, changed_at, one_more}
use Rattle.rb_ledger.proofs.Words.{no_cancels, heads_at, UndoParts}
use Rattle.rb_ledger.proofs.CancelReads
use Rattle.rb_ledger.proofs.Indexed
use Rattle.rb_ledger.proofs.Public.Legal
use Rattle.rb_ledger.proofs.LedgerClocks
use Rattle.rb_ledger.proofs.index.Index.push.Goals as goal

pub cancel_one_more-requires-clause-within : goal.cancel_one_more-requires-clause-within
cancel_one_more-requires-clause-within c = CancelReads.target_near _ _ _ c.args.shadow.now _ c.requires.index c.requires.longer
    (ap (λ (p : UndoParts). p.target) c.requires.parts)

pub cancel_one_more-requires-clause-fits : goal.cancel_one_more-requires-clause-fits
cancel_one_more-requires-clause-fits c = λ i. CancelReads.counts_few _ _ _ i c.requires.index

pub push-requires-clause-within : goal.push-requires-clause-within
push-requires-clause-within c = omega (
  arith,
  c.row.ensures,
  Indexed.row_within _ _ _ c.args.shadow.now c.requires.index.rows
      (Legal.IsValid-last _ _ c.args.shadow.now c.requires.longer).sound,
)

pub push-requires-clause-room : goal.push-requires-clause-room
push-requires-clause-room c = Indexed.row_room _ _ _ c.args.shadow.now _ _ _ c.requires.index.rows
    (Legal.IsValid-last _ _ c.args.shadow.now c.requires.longer).sound c.row.ensures refl c.requires.rows

pub advance-requires-clause-next : goal.advance-requires-clause-next
advance-requires-clause-next c = LedgerClocks.may_advance _ _ _ c.args.shadow.now c.requires.index.clocked c.requires.longer

pub advance-requires-clause-entry : goal.advance-requires-clause-entry
advance-requires-clause-entry c = LedgerClocks.may_entry _ _ _ c.args.shadow.now c.requires.index.clocked c.requires.longer

pub returns-clause-index : goal.returns-clause-index
returns-clause-index c =
    Indexed.indexed_push _ c.args.before.now c.args.self.now _ c.args.shadow.now c.args.links.now
    c.requires.index c.requires.longer c.requires.links
    refl c.advance.ensures.entries
    (c.push_reserved.ensures.items ∙ ap (λ xs. xs ++ no_cancels ∷ []) (c.cancel_one_more.ensures.items
    ∙ ap (λ (p : UndoParts). changed_at p.target (one_more p.position) c.args.self.now.cancels.items) c.requires.parts))
    (
    c.set_head-2.ensures ∙ ap (heads_at c.args.parts.now.other.0 (record {
      last = c.args.parts.now.position;
      balance = c.args.links.now.other.balance;
    })) c.set_head.ensures
    ∙ ap (λ (p : UndoParts). heads_at p.other.0 (record { last = p.position; balance = c.args.links.now.other.balance })
    (heads_at p.place.0 (record { last = p.position; balance = c.args.links.now.own.balance }) c.args.self.now.heads.items))
    c.requires.parts
    )
    (
    c.push.ensures.rows ∙ ap (λ k. set c.args.self.now.rows.rows k (get_or c.args.self.now.rows.rows k [] ++ c.args.parts.now.position
    ∷ [])) c.row.ensures
    ∙ ap (λ (p : UndoParts). set c.args.self.now.rows.rows (row_of c.args.shadow.now.name)
    (get_or c.args.self.now.rows.rows (row_of c.args.shadow.now.name) [] ++ p.position ∷ [])) c.requires.parts
    )

pub push_reserved-requires : goal.push_reserved-requires
push_reserved-requires c = omega (
  arith,
  c.cancel_one_more.ensures.len,
  c.cancel_one_more.ensures.capacity,
  c.requires.cancels,
  CancelReads.all_counts _ _ c.requires.index.cancels,
  c.args.self.now.cancels.ok.0,
)
