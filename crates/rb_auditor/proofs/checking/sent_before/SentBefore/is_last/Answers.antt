-- A message at a place is one of the messages.
use Rattle.std.proofs.Common.{◌∙◌, ap, length, refl, subst, Some}
use Rattle.std.proofs.lemmas.Option.{slice_get_read}
use Rattle.rb_site.specs.Histories.{IsAmong}
use Rattle.rb_site.proofs.Public.Recorded.{at_place}
use Rattle.rb_auditor.proofs.checking.sent_before.SentBefore.is_last.Goals as goal

pub returns-in-Some-get : goal.returns-in-Some-get
returns-in-Some-get c = λ same.
    subst (IsAmong c.args.message.now) c.deref.ensures.value
    (at_place c.deref.result.now c.in-Some.at.now c.args.message.now
    (slice_get_read c.deref.result.now (length c.deref.result.now) c.in-Some.at.now c.in-Some-get.known.now refl
    c.in-Some-get.ensures.lookup.3.0 c.in-Some-get.ensures.lookup.1 ∙ ap Some (c.same.ensures.0 same)))
