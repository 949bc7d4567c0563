-- A site before any event is as the model says.
use Rattle.std.proofs.Common.{◌≡◌, ◌∙◌, ℕ, ◌<◌, ◌≤◌, List, [], length, map, ap, arith, subst, sym}
use Rattle.std.proofs.lemmas.Result.{IfOk-from_err}
use Rattle.rb_money.specs.Settings.{IsConfigured, Settings}
use Rattle.rb_site.specs.declared.entry.Entry.{Entry}
use Rattle.rb_site.specs.Events.{first_site}
use Rattle.rb_site.specs.Reports.{IsEnough, RoomFor}
use Rattle.rb_site.specs.Seen.{SeenSite, first_seen}
use Rattle.rb_site.specs.States.{IsStanding, SiteState}
use Rattle.rb_site.proofs.States.{seen_as}
use Rattle.rb_site.proofs.site.Site.open_keeping.Goals as goal

-- clients see a site before any event
opened : {E : Type 0} (f : E → Entry) (xs : List E) (s : Settings) (me : ℕ) (now : SiteState) → xs ≡ [] → now.settings ≡ s →
    now.site ≡ first_site me → seen_as now.settings now.site.me (map f xs) ≡ first_seen s me
opened f xs s me now none same at =
    ap (λ ys. seen_as now.settings now.site.me (map f ys)) none
    ∙ ap (λ z. seen_as z now.site.me []) same
    ∙ ap (λ t. seen_as s t.me []) at

-- its history replays, and its state is what the run of that leads to
as_opened : (s : Settings) (me : ℕ) (now : SiteState) → IsConfigured s → me < s.sites → now.settings ≡ s → now.site ≡ first_site me →
    IsStanding (first_seen s me) now
as_opened s me now configured within same at = record {
  configured = configured;
  kept = record { within = within; replays = tt; room = omega arith };
  settings = same;
  site = at;
}

-- and its report needs no memory for operations
enough : (room : RoomFor) (s : Settings) (me : ℕ) (now : SiteState) → length s.starts ≤ room.accounts → now.settings ≡ s →
    now.site ≡ first_site me → IsEnough room now
enough room s me now accounts same at = record {
  accounts = subst (λ (z : Settings). length z.starts ≤ room.accounts) (sym same) accounts;
  entries = let none : length now.site.ops ≡ 0 = ap (λ t. length t.ops) at in omega arith;
}

pub returns-in_err-report_lists : goal.returns-in_err-report_lists
returns-in_err-report_lists g c = IfOk-from_err c.from_residual.result _ c.from_residual.ensures.0

pub invariant_of-result : goal.invariant_of-result
invariant_of-result g c = (
  let P : SeenSite → Type 0 = λ x. IsStanding x c.in_ok-state.state in
      subst P (sym (opened g.E.KeepsEntry.entry c.new.result.items c.args.config.now c.args.me c.in_ok-state.state c.new.ensures.items
      c.in_ok-state.ensures.0 c.in_ok-state.ensures.1))
      (as_opened c.args.config.now c.args.me c.in_ok-state.state c.accounts.ensures.configured c.requires c.in_ok-state.ensures.0
      c.in_ok-state.ensures.1),
  λ keeps. enough c.in_ok-report_lists.report_lists c.args.config.now c.args.me c.in_ok-state.state
      (subst (λ n. n ≤ c.in_ok-report_lists.report_lists.accounts) (c.len.ensures.starts ∙ ap length c.accounts.ensures.starts)
      (c.in_ok-report_lists.ensures (c.KEEPS.ensures ∙ keeps)))
      c.in_ok-state.ensures.0 c.in_ok-state.ensures.1,
)

pub returns : goal.returns
returns g c = opened g.E.KeepsEntry.entry c.new.result.items c.args.config.now c.args.me c.in_ok-state.state c.new.ensures.items
    c.in_ok-state.ensures.0 c.in_ok-state.ensures.1
