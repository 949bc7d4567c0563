use Rattle.std.proofs.Common.{◌≡◌, ◌++◌, ◌∷◌, [], length, map, append-nil, refl, ap, sym, ◌∙◌, inl}
use Rattle.std.specs.Prelude.{List, None}
use Rattle.rb_site.specs.Events.{is_full, reply_to}
use Rattle.rb_site.specs.Seen.{SeenSite, entry, state_of}
use Rattle.rb_site.specs.Unchanging.{changes_site}
use Rattle.rb_history.specs.Ids.{AskedEntry}
use Rattle.rb_node.specs.Asked.{SeenAsked, without_ids, with_id, with_more}
use Rattle.rb_node.specs.Index.{index_of}
use Rattle.rb_node.specs.Kept.{entry_erased, by_bytes}
use Rattle.rb_node.specs.declared.erased_asked.ErasedAsked.{ErasedAsked}
use Rattle.rb_node.proofs.Index.{index_unchanging}
use Rattle.rb_node.proofs.Recorded.{with-none}
use Rattle.rb_node.proofs.Requests.{IsNotedAs, next_seen, same_site, still_keeps}
use Rattle.rb_node.proofs.asked_site.AskedSite.record_unchanging.Goals as goal
use Rattle.rb_node.proofs.asked_site.AskedSite.record_unchanging.Goals.{After-note_entry}

-- the site without its ids, as clients see it
the_site : (c : After-note_entry) → without_ids c.args.self.now ≡ c.self.inside.site
the_site c = ap (λ (v : SeenAsked). without_ids v) (sym c.self.view_is)
    ∙ same_site c.self.inside.site (map entry_erased c.self.inside.asked.items) (by_bytes c.self.inside.by_id.entries) c.self.invariant.0

-- the event was noted without an id
the_noted : (c : After-note_entry) → IsNotedAs c.self.inside.site c.record_unchanging.new.self
    (map entry_erased c.self.inside.asked.items) (map entry_erased c.note_entry.new.asked.items) (by_bytes c.self.inside.by_id.entries)
    (by_bytes c.self.inside.by_id.entries) [] c.args.event.now c.args.reply.now
the_noted c = record {
  free = ap (λ (y : SeenSite). is_full y.settings (state_of y)) (sym (the_site c)) ∙ c.requires.free;
  site = c.in_ok-record_unchanging.ensures.ok;
  reply_is = c.requires.reply ∙ ap (λ (y : SeenSite). reply_to y.settings (state_of y) c.args.event.now) (the_site c);
  entry_noted = c.note_entry.ensures
      ∙ ap (λ id. map entry_erased c.reserve_one.new.list.items ++ with_id id (entry c.args.event.now c.args.reply.now)
      ∷ []) c.none-no_id.ensures
      ∙ ap (λ (l : List ErasedAsked). map entry_erased l ++ with_id [] (entry c.args.event.now c.args.reply.now) ∷ [])
      c.in_ok-reserve_one.ensures.items;
  copies = None;
  are_copies = inl refl;
  first = length (state_of c.self.inside.site).ops;
  first_is = refl;
  end = length (state_of c.record_unchanging.new.self).ops;
  end_is = refl;
  request_is_noted = sym (append-nil (by_bytes c.self.inside.by_id.entries));
}

pub record_unchanging-requires : goal.record_unchanging-requires
record_unchanging-requires c =
    let at : without_ids c.args.self.now ≡ c.self.inside.site = ap (λ (v : SeenAsked). without_ids v) (sym c.self.view_is)
    ∙ same_site c.self.inside.site (map entry_erased c.self.inside.asked.items) (by_bytes c.self.inside.by_id.entries) c.self.invariant.0 in
    record {
      free = ap (λ (y : SeenSite). is_full y.settings (state_of y)) (sym at) ∙ c.requires.free;
      unchanging = ap (λ (y : SeenSite). changes_site y.settings (state_of y) c.args.event.now) (sym at) ∙ c.requires.unchanging;
      reply = c.requires.reply ∙ ap (λ (y : SeenSite). reply_to y.settings (state_of y) c.args.event.now) at;
    }

pub invariant_of-self-2 : goal.invariant_of-self-2
invariant_of-self-2 c = (
  still_keeps c.self.inside.site c.record_unchanging.new.self (map entry_erased c.self.inside.asked.items)
      (map entry_erased c.note_entry.new.asked.items) (by_bytes c.self.inside.by_id.entries) (by_bytes c.self.inside.by_id.entries)
      [] c.args.event.now c.args.reply.now c.self.invariant.0 (the_noted c),
  c.self.invariant.1 ∙ sym (index_unchanging c.self.inside.site c.args.event.now
      (ap (λ (y : SeenSite). changes_site y.settings (state_of y) c.args.event.now) (sym (the_site c)) ∙ c.requires.unchanging))
      ∙ ap index_of (sym c.in_ok-record_unchanging.ensures.ok),
)

pub returns : goal.returns
returns c = record {
  ok = next_seen c.self.inside.site c.record_unchanging.new.self (map entry_erased c.self.inside.asked.items)
      (map entry_erased c.note_entry.new.asked.items) (by_bytes c.self.inside.by_id.entries) (by_bytes c.self.inside.by_id.entries)
      c.args.self.now [] c.args.event.now c.args.reply.now c.self.view_is (the_noted c)
      ∙ ap (λ (x : AskedEntry). with_more c.args.self.now (x ∷ [])) (with-none (entry c.args.event.now c.args.reply.now));
  err = tt;
}
