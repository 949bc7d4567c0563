-- An event that changes nothing is a step of the model.
use Rattle.std.proofs.Common.{◌∙◌, [], ◌∷◌, ◌++◌, ap, refl, subst, sym}
use Rattle.std.specs.Prelude.{map}
use Rattle.std.proofs.lemmas.List.{map-append}
use Rattle.rb_site.specs.Events.{is_full, reply_to}
use Rattle.rb_site.specs.Seen.{SeenSite, entry, state_of}
use Rattle.rb_site.specs.States.{IsStanding, plain}
use Rattle.rb_site.specs.Unchanging.{changes_site}
use Rattle.rb_site.specs.declared.entry.Entry.{Entry}
use Rattle.rb_site.specs.declared.keeps_entry.ErasedEntry.{ErasedEntry}
use Rattle.rb_site.proofs.States.{IsStep, seen_as, seen_now, step_unchanging}
use Rattle.rb_site.proofs.unrecorded.Site+ErasedEntry.record_unchanging.Goals as goal

pub invariant_of-self-2 : goal.invariant_of-self-2
invariant_of-self-2 c =
    let f : ErasedEntry → Entry = λ x. record { event = x.event.value; reply = x.reply.value } in
    let was : SeenSite = seen_as c.self.inside.state.settings c.self.inside.state.site.me (map f c.self.inside.history.items) in
    let step : IsStep was c.self.inside.state [] [] c.args.event.now (plain c.args.reply.now) =
    step_unchanging was c.self.inside.state c.args.event.now c.args.reply.now
    (ap (λ (x : SeenSite). is_full x.settings (state_of x)) c.self.view_is ∙ c.requires.free)
    c.self.invariant.0
    (ap (λ (x : SeenSite). changes_site x.settings (state_of x) c.args.event.now) c.self.view_is ∙ c.requires.unchanging)
    (c.requires.reply ∙ sym (ap (λ (x : SeenSite). reply_to x.settings (state_of x) c.args.event.now) c.self.view_is)) in
    let P : SeenSite → Type 0 = λ x. IsStanding x c.self.inside.state in (
      subst P (sym (seen_now was c.self.inside.state [] [] c.args.event.now (plain c.args.reply.now)
          (map f c.push_reserved.new.self.items) step refl
          (ap (map f) c.push_reserved.ensures.items
          ∙ map-append f c.reserve_one.new.list.items _
          ∙ ap (λ x. map f c.reserve_one.new.list.items ++ x ∷ []) c.note.ensures
          ∙ ap (λ e. map f c.reserve_one.new.list.items ++ entry e c.args.reply.now ∷ []) c.in_ok-kept.ensures
          ∙ ap (λ xs. map f xs ++ entry c.args.event.now c.args.reply.now ∷ []) c.in_ok-reserve_one.ensures.items))) step.standing,
      λ keeps. cc,
    )
