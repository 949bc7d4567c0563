use Rattle.std.proofs.Common.{◌≡◌, ◌++◌, ◌∷◌, [], ◌&&◌, true, not, length, map, ap, sym, ◌∙◌}
use Rattle.std.specs.Prelude.{List}
use Rattle.rb_shadow.specs.declared.shadow.Shadow.{Shadow}
use Rattle.rb_site.specs.Events.{is_full, sent_at}
use Rattle.rb_site.specs.Seen.{SeenSite, state_of}
use Rattle.rb_site.specs.Unchanging.{changes_site, reply_if_changes}
use Rattle.rb_node.specs.Asked.{SeenAsked, without_ids, with_id}
use Rattle.rb_node.specs.Kept.{entry_erased, by_bytes, find_request, request_noted}
use Rattle.rb_node.specs.declared.erased_asked.ErasedAsked.{ErasedAsked}
use Rattle.rb_node.proofs.Index.{index_noted, put_behind}
use Rattle.rb_node.proofs.Recorded.{more-none, reply-free}
use Rattle.rb_node.proofs.Requests.{IsNotedAs, copies_new, free_if_recorded, have_ids, next_if_recorded, next_seen}
use Rattle.rb_node.proofs.Requests.{next_unrecorded, not_found, same_site, seen, still_keeps}
use Rattle.rb_node.proofs.asked_site.AskedSite.answer_if_changes.Goals as goal

-- the event is recorded
is_recorded : (c : goal.After-note_request) → (changes_site c.self.inside.site.settings (state_of c.self.inside.site) c.args.event.now
    && not (is_full c.self.inside.site.settings (state_of c.self.inside.site))) ≡ true
is_recorded c = sym c.in_ok-recorded.ensures.recorded ∙ c.if-not-recorded.false

-- the event was noted
the_noted : (c : goal.After-note_request) → IsNotedAs c.self.inside.site c.answer_if_changes.new.self
    (map entry_erased c.self.inside.asked.items)
    (map entry_erased c.note_entry.new.asked.items) (by_bytes c.self.inside.by_id.entries) (by_bytes c.note_request.new.by_id.entries)
    c.args.id.now c.args.event.now c.answer_if_changes.new.reply
the_noted c =
    let x = c.self.inside.site in
    let e = c.args.event.now in
    let free = free_if_recorded x e (is_recorded c) in
    record {
      free = free;
      site = c.in_ok-recorded.ensures.ok.0 ∙ next_if_recorded x e (is_recorded c);
      reply_is = c.in_ok-recorded.ensures.ok.1 ∙ reply-free x.settings (state_of x) e free;
      entry_noted = c.note_entry.ensures
          ∙ ap (λ (l : List ErasedAsked). map entry_erased l ++ with_id c.args.id.now
          (record { event = e; reply = c.answer_if_changes.new.reply }) ∷ [])
          c.in_ok-reserve_one-2.ensures.items;
      copies = c.in_ok-copies.copies;
      are_copies = c.in_ok-copies.ensures.copies;
      first = c.len-first.result;
      first_is = c.len-first.ensures.same ∙ ap (λ (us : List Shadow). length us) c.ledger.ensures.entries;
      end = c.len-end.result;
      end_is = c.len-end.ensures.same ∙ ap (λ (us : List Shadow). length us) c.ledger-2.ensures.entries;
      request_is_noted = c.note_request.ensures
          ∙ ap (λ es. by_bytes es ++ request_noted c.in_ok-copies.copies c.answer_if_changes.new.reply c.len-first.result c.len-end.result)
          c.in_ok-copies.ensures.entries;
    }

pub note_request-requires : goal.note_request-requires
note_request-requires c =
    let site = c.self.inside.site in
    let asked = map entry_erased c.self.inside.asked.items in
    let kept = by_bytes c.self.inside.by_id.entries in
    let id = c.args.id.now in
    let none : find_request id (by_bytes c.copy_asked.new.by_id.entries) ≡ _ =
    ap (λ es. find_request id (by_bytes es)) c.in_ok-copies.ensures.entries
    ∙ not_found site asked kept c.args.self.now id (have_ids c.self.inside.asked.items) c.self.invariant.0 c.self.view_is c.requires in
    record {
      new = copies_new c.in_ok-copies.copies id c.args.event.now _ c.in_ok-copies.ensures.copies none;
      capacity = c.in_ok-copies.ensures.capacity;
    }

-- the site keeps what it has to, and the index has the event's note
pub invariant_of-self-2 : goal.invariant_of-self-2
unfolding the_noted
invariant_of-self-2 c =
    let x = c.self.inside.site in
    let e = c.args.event.now in
    let noted = the_noted c in (
      still_keeps x c.answer_if_changes.new.self (map entry_erased c.self.inside.asked.items)
          (map entry_erased c.note_entry.new.asked.items) (by_bytes c.self.inside.by_id.entries) (by_bytes c.note_request.new.by_id.entries)
          c.args.id.now e c.answer_if_changes.new.reply c.self.invariant.0 noted,
      index_noted x c.answer_if_changes.new.self e c.reserve_one.new.list.items c.note_sent.new.index.items c.len-before.result
          c.len-first.result c.len-end.result _ (c.in_ok-reserve_one.ensures.items ∙ c.self.invariant.1) noted.site c.len-before.ensures
          noted.first_is noted.end_is
          (put_behind c.args.sent.now.items c.as_slice.result.now (sent_at x.settings (state_of x) e) c.len-sent_before.result
          (c.as_slice.ensures.value ∙ c.in_ok-recorded.ensures.ok.2) (c.len-sent_before.ensures ∙ c.args.sent.now.ok.0))
          c.note_sent.ensures,
    )

pub returns : goal.returns
returns c =
    let site = c.self.inside.site in
    let asked = map entry_erased c.self.inside.asked.items in
    let kept = by_bytes c.self.inside.by_id.entries in
    let event = c.args.event.now in
    let at : site ≡ without_ids c.args.self.now =
    sym (same_site site asked kept c.self.invariant.0) ∙ ap (λ (v : SeenAsked). without_ids v) c.self.view_is in
    record {
      recorded = record {
        recorded_is = sym (is_recorded c) ∙ ap (λ (y : SeenSite). changes_site y.settings (state_of y) event
            && not (is_full y.settings (state_of y))) at;
        reply_is = c.in_ok-recorded.ensures.ok.1 ∙ ap (λ (y : SeenSite). reply_if_changes y.settings (state_of y) event) at;
        site = next_seen site c.answer_if_changes.new.self asked (map entry_erased c.note_entry.new.asked.items) kept
            (by_bytes c.note_request.new.by_id.entries) c.args.self.now c.args.id.now event c.answer_if_changes.new.reply c.self.view_is
            (the_noted c);
      };
      sent = c.in_ok-recorded.ensures.ok.2 ∙ ap (λ (y : SeenSite). c.args.sent.now.items ++ sent_at y.settings (state_of y) event) at;
      err = tt;
    }

-- an event that isn't recorded leaves the site as it was
pub returns-then-not-recorded : goal.returns-then-not-recorded
returns-then-not-recorded c =
    let site = c.self.inside.site in
    let asked = map entry_erased c.self.inside.asked.items in
    let kept = by_bytes c.self.inside.by_id.entries in
    let event = c.args.event.now in
    let not_recorded = sym c.in_ok-recorded.ensures.recorded ∙ c.if-not-recorded.true in
    let stayed : c.answer_if_changes.new.self ≡ site = c.in_ok-recorded.ensures.ok.0 ∙ next_unrecorded site event not_recorded in
    let at : site ≡ without_ids c.args.self.now =
    sym (same_site site asked kept c.self.invariant.0) ∙ ap (λ (v : SeenAsked). without_ids v) c.self.view_is in
    let bank = c.self.inside.bank in
    record {
      recorded = record {
        recorded_is = sym not_recorded ∙ ap (λ (y : SeenSite). changes_site y.settings (state_of y) event
            && not (is_full y.settings (state_of y))) at;
        reply_is = c.in_ok-recorded.ensures.ok.1 ∙ ap (λ (y : SeenSite). reply_if_changes y.settings (state_of y) event) at;
        site = ap (λ (y : SeenSite). seen bank y (map entry_erased c.reserve_one-2.new.list.items)) stayed
            ∙ ap (λ (l : List ErasedAsked). seen bank site (map entry_erased l)) c.in_ok-reserve_one-2.ensures.items ∙ c.self.view_is
            ∙ more-none c.args.self.now;
      };
      sent = c.in_ok-recorded.ensures.ok.2 ∙ ap (λ (y : SeenSite). c.args.sent.now.items ++ sent_at y.settings (state_of y) event) at;
      err = tt;
    }
