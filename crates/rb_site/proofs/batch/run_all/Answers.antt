-- One request more, or what stops the batch.
use Rattle.std.proofs.Common.{◌∙◌, ◌+◌, ◌<◌, inl, inr, [], ◌∷◌, ap, length, length-append, refl, subst, sym, Ok, Err}
use Rattle.rb_money.specs.Settings.{Settings}
use Rattle.rb_token.specs.Seen.{Shows}
use Rattle.rb_token.specs.declared.view.TokenView.{TokenView}
use Rattle.rb_scratch.specs.Batches.{batch_of}
use Rattle.rb_site.proofs.Batches.{fault_made, run_more, run_stopped}
use Rattle.rb_site.proofs.batch.run_all.Goals as goal

pub requests-init : goal.requests-init
unfolding batch_of
requests-init c = record {
  here = c.requires.here;
  same_reference = refl;
  token = refl;
  settings = refl;
  tried = rw c.requires.empty c.requires.none;
  all = ap length c.requires.empty;
  made = λ known shows. ap Ok (sym c.requires.empty);
}

pub requests-preserved : goal.requests-preserved
requests-preserved c =
    let (v, name, added, makes) = c.in-Ok.ensures.ran in
    let P : Settings → Type 0 = λ z. c.run.new.self.token.me < z.sites in
    let Q : TokenView → Type 0 = λ t. t.me < c.requests.scratch.ledger.now.settings.sites in
    record {
      here = subst P (sym c.run.ensures.settings) (subst Q (sym c.run.ensures.token) c.requests.invariant.here);
      same_reference = c.run.ensures.same_reference ∙ c.requests.invariant.same_reference;
      token = c.run.ensures.token ∙ c.requests.invariant.token;
      settings = c.run.ensures.settings ∙ c.requests.invariant.settings;
      tried = added.tried c.args.scratch.now.ledger.now.entries c.requests.invariant.tried;
      all = ap length added.made ∙ length-append c.requests.scratch.made.items (v ∷ []) ∙ ap (λ n. n + 1) c.requests.invariant.all;
      made = λ known shows.
          run_more c.args.scratch.now.ledger.now.settings c.requests.scratch.ledger.now.settings c.args.scratch.now.token.me
          c.requests.scratch.token.me c.args.scratch.now.ledger.now.entries c.requests.scratch.ledger.now.entries
          c.requests.scratch.made.items known c.args.requests.now c.requests.index _ v
          c.requests-test.true c.requests.invariant.settings (ap (λ (t : TokenView). t.me) c.requests.invariant.token)
          c.requests.invariant.tried.entries (c.requests.invariant.made known shows)
          (makes known (subst (λ (t : TokenView). Shows t known) (sym c.requests.invariant.token) shows))
          ∙ ap Ok (sym added.made);
    }

pub returns-in-Err-clause-refused : goal.returns-in-Err-clause-refused
returns-in-Err-clause-refused c =
    let vs = c.requests.scratch.made.items in
    let tried = c.requests.invariant.tried in
    let more : length vs < length c.args.requests.now =
    subst (λ n. n < length c.args.requests.now) (sym c.requests.invariant.all) c.requests-test.true in
    elim c.why_stopped.ensures [
      | inl e ↦ inl e.1
      | inr e ↦ inr (λ known shows.
          run_stopped c.args.scratch.now.ledger.now.settings c.requests.scratch.ledger.now.settings c.args.scratch.now.token.me
          c.requests.scratch.token.me c.args.scratch.now.ledger.now.entries c.requests.scratch.ledger.now.entries vs known
          c.args.requests.now c.requests.index _ c.in-Err.fault
          c.requests-test.true c.requests.invariant.settings (ap (λ (t : TokenView). t.me) c.requests.invariant.token) tried.entries
          (c.requests.invariant.made known shows)
          (fault_made c.args.scratch.now.ledger.now.entries vs c.requests.scratch.ledger.now _ c.requests.scratch.undos.parts
          c.requests.scratch.token.me known c.args.requests.now _ c.in-Err.fault tried more c.requires.few
          (c.in-Err.ensures.fault known (subst (λ (t : TokenView). Shows t known) (sym c.requests.invariant.token) shows)) e.0)
          ∙ ap Err (sym e.1))
    ]
