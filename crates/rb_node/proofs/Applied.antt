-- The operations that are ready are applied, one after another, and an answer is written around that.
use Rattle.std.proofs.Common.{◌≡◌, ℕ, ◌+◌, ◌-◌, ◌<◌, Bool, true, false, List, [], ◌∷◌, ◌++◌, codes, length, take, arith}
use Rattle.std.proofs.Common.{length-append, refl, sym, ap, subst, ◌∙◌, append_assoc, append-nil, inl}
use Rattle.std.proofs.lemmas.Bool.Decides.{nat_tests}
use Rattle.std.specs.Prelude.{map, nat_le, None, Result, Ok, Err, MatchResult}
use Rattle.std.proofs.lemmas.Grind.{flat_map-append}
use Rattle.std.proofs.lemmas.List.{map-append}
use Rattle.rb_money.specs.Settings.{Settings}
use Rattle.serde_json.specs.View.{items_of}
use Rattle.serde_json.specs.Written.{compact_text, items_text}
use Rattle.rb_shadow.specs.declared.op_name.OpName.{OpName}
use Rattle.rb_site.specs.declared.entry.Entry.{Entry}
use Rattle.rb_site.specs.declared.event.Event.{Event}
use Rattle.rb_site.specs.declared.event.Event.TheVariants.{Apply}
use Rattle.rb_site.specs.declared.message.Message.{Message}
use Rattle.rb_site.specs.declared.reply.Reply.{Reply}
use Rattle.rb_site.specs.Events.{ModelSite, after_event, after_events, is_full, replies_to_events, reply_to, sent_at}
use Rattle.rb_site.specs.Ready.{IsNextName}
use Rattle.rb_site.specs.Seen.{SeenSite, entry, next_sites, state_of}
use Rattle.rb_site.proofs.Public.Recorded.{noted_history}
use Rattle.rb_site.proofs.Public.Seen.{state-next}
use Rattle.rb_history.specs.Replies.{reply_json}
use Rattle.rb_history.specs.Adds.{Adds}
use Rattle.rb_history.proofs.Public.Appended.{both, front_of_front, front_of_sum, front_stays}
use Rattle.rb_history.proofs.Public.Listed.{rest_text, whole_text}
use Rattle.rb_history.specs.Entries.{asked_entry_json}
use Rattle.rb_history.specs.Ids.{AskedEntry, IsIdOrNone}
use Rattle.rb_node.specs.Answers.{AppliesAll, AreReadyInTurn, IsAllApplied, asked_answer_json, entry_lines, line_of}
use Rattle.rb_node.specs.Answers.{reply_kept}
use Rattle.rb_node.specs.Asked.{SeenAsked, asked_state, known_of, without_ids, with_id, with_more}
use Rattle.rb_node.specs.LineAnswers.{AddsEvent}
use Rattle.rb_node.specs.Steps.{Applies, AppliesOne, Notes, Steps, StepsKept, without_id}
use Rattle.rb_node.proofs.AnswerTexts.{answer_line, head_text, rest_of_front}
use Rattle.rb_node.proofs.Recorded.{more-alone, more-none, recorded}

-- what is ready is applied: the replies after a text, the first after this comma, and the lines of the entries,
-- none of which may have an id
pub record AppliesOn (comma : List ℕ) (old new : SeenAsked) (text text_after entries entries_after : List ℕ) : Type 0 where
  pub names : List OpName
  pub replies : List Reply
  pub recorded : List Entry
  pub applied : AppliesAll (without_ids old) (without_ids new) names replies recorded
  pub recorded_are : (id : List ℕ) → new ≡ with_more old (map (with_id id) recorded)
  pub text_is : text_after ≡ text ++ rest_text comma (map reply_json replies)
  pub entries_are : (id : List ℕ) → entries_after ≡ entries ++ entry_lines old.settings old.me (map (with_id id) recorded)

-- nothing more is applied
pub applies_none : (comma : List ℕ) (x : SeenAsked) (text entries : List ℕ) → IsAllApplied x.settings (asked_state x)
    → AppliesOn comma x x text text entries entries
applies_none comma x text entries all = record {
  names = [];
  replies = [];
  recorded = [];
  applied = record {
    in_turn = tt;
    all = all;
    after = refl;
    replies_are = refl;
    recorded_are = sym (append-nil (without_ids x).entries);
  };
  recorded_are = λ id. more-none x;
  text_is = sym (append-nil text);
  entries_are = λ id. sym (append-nil entries);
}

-- what two sites have in common, at one of them
along : (P : Settings → ModelSite → Type 0) (s s' : Settings) (t t' : ModelSite) → s' ≡ s → t' ≡ t → P s' t' → P s t
along P s s' t t' e f h = subst (λ u. P s u) f (subst (λ r. P r t') e h)

-- the entries of two steps, as lines
lines_of_both : (s r : Settings) (me you : ℕ) (xs ys : List AskedEntry) (a b c : List ℕ) → r ≡ s → you ≡ me
    → b ≡ a ++ entry_lines s me xs → c ≡ b ++ entry_lines r you ys → c ≡ a ++ entry_lines s me (xs ++ ys)
lines_of_both s r me you xs ys a b c e f g h =
    h ∙ ap (λ k. b ++ entry_lines k you ys) e ∙ ap (λ n. b ++ entry_lines s n ys) f ∙ ap (λ l. l ++ entry_lines s me ys) g
    ∙ append_assoc a (entry_lines s me xs) (entry_lines s me ys)
    ∙ ap (λ l. a ++ l) (sym (flat_map-append (λ x. line_of (asked_entry_json s me x)) xs ys))

-- the entries of two steps
more_of_both : (old mid new : SeenAsked) (xs ys : List AskedEntry) → mid ≡ with_more old xs → new ≡ with_more mid ys
    → new ≡ with_more old (xs ++ ys)
more_of_both old mid new xs ys e f = f ∙ ap (λ y. with_more y ys) e
    ∙ ap (λ (l : List AskedEntry). record old { asked = l }) (append_assoc old.asked xs ys)

-- an operation more
pub applies_more : (comma : List ℕ) (x : OpName) (old mid new : SeenAsked) (a b c k l m : List ℕ)
    → is_full old.settings (asked_state old) ≡ false → IsNextName (asked_state old) x → AppliesOne old mid x comma a b k l
    → AppliesOn (codes ",") mid new b c l m → AppliesOn comma old new a c k m
applies_more comma x old mid new a b c k l m free ready one rest =
    let s = old.settings in
    let step = one.step in
    let t = after_event s (asked_state old) (Apply x) in
    let kept : mid.settings ≡ s = ap (λ (y : SeenAsked). y.settings) step.recorded_are in
    let state : asked_state mid ≡ t = ap state_of step.site ∙ state-next (without_ids old) (Apply x) in
    let me : mid.me ≡ old.me = ap (λ (y : SeenAsked). y.me) step.recorded_are in
    let events = map Apply rest.names in
    let reply = compact_text (reply_json one.reply) in
    let later = rest_text (codes ",") (map reply_json rest.replies) in
    let first = entry (Apply x) one.reply in
    record {
      names = x ∷ rest.names;
      replies = one.reply ∷ rest.replies;
      recorded = first ∷ rest.recorded;
      applied = record {
        in_turn =
            (free, ready, along (λ r u. AreReadyInTurn r u rest.names) s mid.settings t (asked_state mid) kept state rest.applied.in_turn);
        all = along (λ r u. IsAllApplied r (after_events r u events)) s mid.settings t (asked_state mid) kept state rest.applied.all;
        after = rest.applied.after ∙ ap (λ y. next_sites y events) step.site;
        replies_are = ap (λ r. r ∷ rest.replies) step.reply_is
            ∙ ap (λ rs. reply_to s (asked_state old) (Apply x) ∷ rs)
            (along (λ r u. rest.replies ≡ replies_to_events r u events)
            s mid.settings t (asked_state mid) kept state rest.applied.replies_are);
        recorded_are = rest.applied.recorded_are
            ∙ ap (λ xs. xs ++ rest.recorded) (ap (λ (y : SeenAsked). (without_ids y).entries) step.recorded_are
            ∙ more-alone old [] (first ∷ []))
            ∙ append_assoc (without_ids old).entries (first ∷ []) rest.recorded;
      };
      recorded_are = λ id. more_of_both old mid new (without_id first ∷ []) (map (with_id id) rest.recorded) step.recorded_are
          (rest.recorded_are id);
      text_is = rest.text_is ∙ ap (λ y. y ++ later) one.text_is ∙ append_assoc a (comma ++ reply) later
          ∙ ap (λ y. a ++ y) (append_assoc comma reply later);
      entries_are = λ id. lines_of_both s mid.settings old.me mid.me (without_id first ∷ []) (map (with_id id) rest.recorded) k l m kept me
          step.entries_are (rest.entries_are id);
    }

-- each application takes one of the entries for which the history has capacity
below : (limit n : ℕ) → nat_le limit n ≡ false → n < limit
below limit n h = grind (arith, nat_tests)

-- after an event at a site whose history isn't full, the history has capacity for fewer entries
pub spare_falls : (old mid : SeenAsked) (e : Event) (reply : Reply) (k l : List ℕ) → is_full old.settings (asked_state old) ≡ false
    → Steps old mid e reply k l
    → mid.settings.limits.history - length (asked_state mid).history < old.settings.limits.history - length (asked_state old).history
spare_falls old mid e reply k l free step =
    let s = old.settings in
    let t = asked_state old in
    let limit : mid.settings.limits.history ≡ s.limits.history = ap (λ (y : SeenAsked). y.settings.limits.history) step.recorded_are in
    let longer : (asked_state mid).history ≡ t.history ++ e ∷ [] =
    ap (λ (y : SeenSite). (state_of y).history) step.site ∙ ap (λ (u : ModelSite). u.history) (state-next (without_ids old) e)
    ∙ noted_history s t e free in
    let more : length (asked_state mid).history ≡ length t.history + 1 = ap length longer ∙ length-append t.history (e ∷ []) in
    let less : length t.history < s.limits.history = below s.limits.history (length t.history) free in
    omega arith

-- the operation was applied, and its reply written after the comma
pub applied_one : {A E : Type 0} (Q : Type 0) (r : Result A E) (old mid new : SeenAsked) (id : List ℕ) (x : OpName)
    (reply : Reply) (comma a b c k l : List ℕ) → id ≡ [] → is_full old.settings (asked_state old) ≡ false
    → mid ≡ with_more old (with_id id (entry (Apply x) reply) ∷ []) → reply ≡ reply_to old.settings (asked_state old) (Apply x)
    → b ≡ a ++ comma
    → MatchResult r (λ _. Notes true mid new id (entry (Apply x) reply) k l × (c ≡ b ++ compact_text (reply_json reply)) × Q)
    (λ _. (take (length b) c ≡ b) × (take (length k) l ≡ k))
    → MatchResult r (λ _. AppliesOne old new x comma a c k l) (λ _. (take (length a) c ≡ a) × (take (length k) l ≡ k))
applied_one Q (Ok y) old mid new id x reply comma a b c k l none free is given begun h = record {
  reply = reply;
  step = recorded old mid new id (Apply x) reply k l none free is given h.0;
  text_is = both a b c comma (compact_text (reply_json reply)) begun h.1;
}
applied_one Q (Err y) old mid new id x reply comma a b c k l none free is given begun h = (front_stays a b c comma begun h.0, h.1)

-- all that is ready was applied, and the line ended
pub closed : {A E : Type 0} (r : Result A E) (old new : SeenAsked) (a b c k l : List ℕ) → AppliesOn [] old new a b k l
    → take (length a) b ≡ a → take (length k) l ≡ k → Adds r b c (codes "]}\n")
    → MatchResult r (λ _. Applies old new a c k l) (λ _. (take (length a) c ≡ a) × (take (length k) l ≡ k))
closed (Ok y) old new a b c k l h front kept end =
    let list = rest_text [] (map reply_json h.replies) in
    record {
      names = h.names;
      replies = h.replies;
      recorded = h.recorded;
      applied = h.applied;
      recorded_are = h.recorded_are;
      text_is = both a b c list (codes "]}\n") h.text_is end
          ∙ ap (λ y. a ++ y) (sym (append_assoc list (codes "]") (codes "}\n"))
          ∙ ap (λ y. y ++ codes "}\n") (whole_text (map reply_json h.replies)));
      entries_are = h.entries_are;
    }
closed (Err y) old new a b c k l h front kept end = (front_of_front a b c front end, kept)

-- ---- an answer

-- an event was answered, and what was ready then applied
pub answered : {A E : Type 0} (r : Result A E) (all : Bool) (s : Settings) (bank : List ℕ) (old mid new : SeenAsked)
    (id : List ℕ) (e : Event) (reply : Reply) (sent : List Message) (a b c k l m : List ℕ) → IsIdOrNone id
    → known_of old id ≡ None → s ≡ old.settings → bank ≡ old.bank → StepsKept all old mid id e reply k l
    → sent ≡ sent_at old.settings (asked_state old) e
    → b ≡ a ++ (head_text (codes "{") id ++ rest_of_front s bank reply sent)
    → MatchResult r (λ _. Applies mid new b c l m) (λ _. (take (length b) c ≡ b) × (take (length l) m ≡ l))
    → MatchResult r (λ _. AddsEvent all old new (record { id = id; event = e }) a c k m)
    (λ _. (take (length a) c ≡ a) × (take (length k) m ≡ k))
answered (Ok y) all s bank old mid new id e reply sent a b c k l m is unknown same named step posted begun applies = λ line on.
    let settings = old.settings in
    let x = without_ids old in
    let kept : mid.settings ≡ settings = ap (λ (y : SeenAsked). y.settings) step.recorded_are in
    let me : mid.me ≡ old.me = ap (λ (y : SeenAsked). y.me) step.recorded_are in
    let t = asked_state mid in
    let events = map Apply applies.names in
    let later = items_text false (items_of (map reply_json applies.replies)) in
    let front = head_text (codes "{") id ++ rest_of_front s bank reply sent in
    let tags = map-append (with_id id) step.recorded applies.recorded in (
      _,
      _,
      inl (record {
        asked = record { id = id; event = e };
        is_event = on;
        unknown = unknown;
        mid = without_ids mid;
        mid_is = step.site;
        applied = applies.names;
        in_turn = subst (λ r. AreReadyInTurn r t applies.names) kept applies.applied.in_turn;
        all_applied = subst (λ r. IsAllApplied r (after_events r t events)) kept applies.applied.all;
        after = applies.applied.after;
        text_is = refl;
        recorded = step.recorded ++ applies.recorded;
        recorded_are = more_of_both old mid new (map (with_id id) step.recorded) (map (with_id id) applies.recorded) step.recorded_are
            (applies.recorded_are id) ∙ ap (with_more old) (sym tags);
        entries_are = refl;
      }),
      both a b c front (later ++ codes "}\n") begun applies.text_is
          ∙ ap (λ y. a ++ y) (answer_line s bank id reply sent applies.replies is)
          ∙ ap (λ u. a ++ line_of (asked_answer_json u bank id reply sent applies.replies)) same
          ∙ ap (λ u. a ++ line_of (asked_answer_json settings u id reply sent applies.replies)) named
          ∙ ap (λ u. a ++ line_of (asked_answer_json settings old.bank id u sent applies.replies)) step.reply_is
          ∙ ap (λ u. a ++ line_of (asked_answer_json settings old.bank id (reply_kept all x e) u applies.replies)) posted
          ∙ ap (λ u. a ++ line_of (asked_answer_json settings old.bank id (reply_kept all x e) (sent_at settings (asked_state old) e) u))
          (subst (λ r. applies.replies ≡ replies_to_events r t events) kept applies.applied.replies_are),
      lines_of_both settings mid.settings old.me mid.me (map (with_id id) step.recorded) (map (with_id id) applies.recorded)
          k l m kept me step.entries_are (applies.entries_are id)
          ∙ ap (λ ys. k ++ entry_lines settings old.me ys) (sym tags),
    )
answered (Err y) all s bank old mid new id e reply sent a b c k l m is unknown same named step posted begun failed =
    (front_stays a b c _ begun failed.0, front_of_front k l m (front_of_sum k l _ step.entries_are) failed.1)
