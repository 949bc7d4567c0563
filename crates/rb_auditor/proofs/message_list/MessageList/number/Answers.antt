-- The message is where its position says.
use Rattle.std.proofs.Common.{◌≡◌, ◌∙◌, refl}
use Rattle.std.specs.Prelude.{option_map, slice_get}
use Rattle.std.proofs.lemmas.Option.{slice_get_past, slice_get_read}
use Rattle.rb_site.specs.declared.message.Message.TheVariants.{Shadow as ShadowMessage}
use Rattle.rb_auditor.proofs.Positions
use Rattle.rb_auditor.proofs.message_list.MessageList.number.Goals.{In-Compact, After-deref-in-Other}
use Rattle.rb_auditor.proofs.message_list.MessageList.number.Goals as goal

-- the message, if it is an operation of which little is kept
compact : (c : In-Compact) → slice_get c.args.self.now.items c.args.index
    ≡ option_map (λ u. ShadowMessage u) (slice_get c.self.inside.compact.items c.in-Compact.at)
compact c =
    Positions.at_position c.self.inside.compact.items c.self.inside.others.items c.self.view_is c.self.invariant.each
    c.deref.ensures.value c.in_ok-at.ensures.lookup.3.0 c.in_ok-at.ensures.lookup.1 c.in-Compact.is

-- and if it is kept whole
other : (c : After-deref-in-Other)
    → slice_get c.args.self.now.items c.args.index ≡ slice_get c.deref-in-Other.result.now c.in-Other.at
other c =
    rw c.deref-in-Other.ensures.value (Positions.at_position c.self.inside.compact.items c.self.inside.others.items c.self.view_is
    c.self.invariant.each c.deref.ensures.value c.in_ok-at.ensures.lookup.3.0 c.in_ok-at.ensures.lookup.1 c.in-Other.is)

pub returns-in_err-at-in-Compact : goal.returns-in_err-at-in-Compact
returns-in_err-at-in-Compact c =
    rw (compact (goal.at.returns-in_err-at-in-Compact c).In-Compact, ← c.in_err-at-in-Compact.ensures)
    c.from_residual-in_err-at-in-Compact.ensures

pub returns-in_ok-at-in-Compact : goal.returns-in_ok-at-in-Compact
returns-in_ok-at-in-Compact c =
    rw (
      compact (goal.at.returns-in_ok-at-in-Compact c).In-Compact,
      ← c.in_ok-at-in-Compact.ensures,
      c.name_row.ensures,
      c.name_slot.ensures,
      c.name-name.ensures,
    )

pub returns-in_err-message-in-Other : goal.returns-in_err-message-in-Other
returns-in_err-message-in-Other c =
    rw (
      other (goal.at.returns-in_err-message-in-Other c).After-deref-in-Other,
      slice_get_past c.deref-in-Other.result.now c.in-Other.at c.in_err-message-in-Other.ensures.lookup.3,
    )
    c.from_residual-in_err-message-in-Other.ensures

pub returns-in_ok-message-in-Other : goal.returns-in_ok-message-in-Other
returns-in_ok-message-in-Other c =
    let at = other (goal.at.returns-in_ok-message-in-Other c).After-deref-in-Other
    ∙ slice_get_read c.deref-in-Other.result.now _ c.in-Other.at c.in_ok-message-in-Other.message.now
    refl c.in_ok-message-in-Other.ensures.lookup.3.0 c.in_ok-message-in-Other.ensures.lookup.1 in
    rw (at, c.row.ensures, c.slot.ensures)
