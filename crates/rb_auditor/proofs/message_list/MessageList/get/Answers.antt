-- The message is where its position says.
use Rattle.std.proofs.Common.{◌≡◌, ◌∙◌, refl, sym}
use Rattle.std.specs.Prelude.{option_map, slice_get}
use Rattle.std.proofs.lemmas.Option.{slice_get_past, slice_get_read}
use Rattle.rb_site.specs.declared.message.Message.TheVariants.{Shadow as ShadowMessage}
use Rattle.rb_auditor.proofs.Positions
use Rattle.rb_auditor.proofs.message_list.MessageList.get.Goals.{In-Compact, After-deref-in-Other}
use Rattle.rb_auditor.proofs.message_list.MessageList.get.Goals as goal

-- the message, if it is an operation of which little is kept
compact : (c : In-Compact) → slice_get c.args.self.now.items c.args.index
    ≡ option_map (λ u. ShadowMessage u) (slice_get c.self.inside.compact.items c.in-Compact.at)
compact c =
    Positions.at_position c.self.inside.compact.items c.self.inside.others.items c.self.view_is c.self.invariant.each
    c.deref.ensures.value c.in_ok-at.ensures.lookup.3.0 c.in_ok-at.ensures.lookup.1 c.in-Compact.is

-- and if it is kept whole
other : (c : After-deref-in-Other)
    → slice_get c.args.self.now.items c.args.index ≡ slice_get c.deref-in-Other.result.now c.in-Other.at
other c =
    rw c.deref-in-Other.ensures.value (Positions.at_position c.self.inside.compact.items c.self.inside.others.items c.self.view_is
    c.self.invariant.each c.deref.ensures.value c.in_ok-at.ensures.lookup.3.0 c.in_ok-at.ensures.lookup.1 c.in-Other.is)

pub returns-in_err-at : goal.returns-in_err-at
returns-in_err-at c = rw (Positions.past_positions c.self.inside.compact.items c.self.inside.others.items c.self.view_is
    c.self.invariant.each c.deref.ensures.value c.in_err-at.ensures.lookup.3) c.from_residual.ensures

pub returns-in_err-get-in-Compact : goal.returns-in_err-get-in-Compact
returns-in_err-get-in-Compact c =
    rw (compact (goal.at.returns-in_err-get-in-Compact c).In-Compact, ← c.in_err-get-in-Compact.ensures)
    c.from_residual-in_err-get-in-Compact.ensures

pub returns-in_ok-get-in-Compact : goal.returns-in_ok-get-in-Compact
returns-in_ok-get-in-Compact c =
    rw (compact (goal.at.returns-in_ok-get-in-Compact c).In-Compact, ← c.in_ok-get-in-Compact.ensures)

pub returns-in_err-get-in-Other : goal.returns-in_err-get-in-Other
returns-in_err-get-in-Other c =
    rw (
      other (goal.at.returns-in_err-get-in-Other c).After-deref-in-Other,
      slice_get_past c.deref-in-Other.result.now c.in-Other.at c.in_err-get-in-Other.ensures.lookup.3,
    )
    c.from_residual-in_err-get-in-Other.ensures

pub returns-in_ok-get-in-Other : goal.returns-in_ok-get-in-Other
returns-in_ok-get-in-Other c = sym (other (goal.at.returns-in_ok-get-in-Other c).After-deref-in-Other
    ∙ slice_get_read c.deref-in-Other.result.now _ c.in-Other.at c.in_ok-get-in-Other.field-0.now
    refl c.in_ok-get-in-Other.ensures.lookup.3.0 c.in_ok-get-in-Other.ensures.lookup.1)
