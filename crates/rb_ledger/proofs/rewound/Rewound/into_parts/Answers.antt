use Rattle.rb_ledger.proofs.Words.{◌≡◌, length, refl, ap, ◌∙◌, arith, Rewinding}
use Rattle.rb_ledger.proofs.Cursors
use Rattle.rb_ledger.proofs.rewound.Rewound.into_parts.Goals as goal

pub invariant_of-result : goal.invariant_of-result
invariant_of-result c =
    let here : c.self.inside.at ≡ c.args.self.at = ap (λ (w : Rewinding). w.at) c.self.view_is in
    let all : length c.self.inside.entries.items ≡ length c.args.self.ledger.entries =
    ap (λ (w : Rewinding). length w.ledger.entries) c.self.view_is in
    record {
      index = Cursors.last_index _ _ _ _ _ _ c.self.invariant.at (omega (arith, c.requires, here, all));
      links = c.self.invariant.at.links;
      cancelled = c.self.invariant.cancelled;
      checkpoints = c.self.invariant.checkpoints;
      sites = c.self.invariant.sites;
      room = c.self.invariant.room;
    }

pub returns-clause-log : goal.returns-clause-log
returns-clause-log c =
    let here : c.self.inside.at ≡ c.args.self.at = ap (λ (w : Rewinding). w.at) c.self.view_is in
    let all : length c.self.inside.entries.items ≡ length c.args.self.ledger.entries =
    ap (λ (w : Rewinding). length w.ledger.entries) c.self.view_is in
    Cursors.last_log _ _ _ _ _ _ _ c.self.invariant.at (omega (arith, c.requires, here, all)) refl
    ∙ ap (λ (w : Rewinding). w.log) c.self.view_is
