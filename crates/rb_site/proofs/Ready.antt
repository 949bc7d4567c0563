-- Whether a site holds an operation that is ready.
use Rattle.std.proofs.Common.{◌≡◌, List, sym, subst}
use Rattle.std.specs.Prelude.{IfNone, Option, Some, None}
use Rattle.rb_shadow.specs.Operations.{Among, clock_of}
use Rattle.rb_shadow.specs.declared.deps.Deps.{Deps}
use Rattle.rb_shadow.specs.declared.op_name.OpName.{OpName}
use Rattle.rb_shadow.specs.declared.shadow.Shadow.{Shadow}
use Rattle.rb_shadow.proofs.Public.Lookups.{found}
use Rattle.rb_inbox.specs.Held.{IsReady}
use Rattle.rb_site.specs.Events.{ModelSite}
use Rattle.rb_site.specs.Ready.{NoneIsReady}

-- if no held operation is ready by the clock, the site has none that is
pub none_ready : (o : Option OpName) (t : ModelSite) (held : List Shadow) (clock : Deps) → held ≡ t.held → clock ≡ clock_of t.ops
    → IfNone o ((u : Shadow) → Among u held → ¬ IsReady clock u) → IfNone o (NoneIsReady t)
none_ready None t held clock h c none = λ x v e r.
    none v (subst (Among v) (sym h) (found t.held x v e).0) (subst (λ (d : Deps). IsReady d v) (sym c) r)
none_ready (Some y) t held clock h c none = tt
