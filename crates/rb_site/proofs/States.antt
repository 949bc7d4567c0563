-- A site steps as the model does.
use Rattle.std.proofs.Common.{◌≡◌, ℕ, Bool, true, false, not, ◌&&◌, refl, cond, List, [], ◌∷◌, ◌++◌, ap, sym, subst, ◌∙◌}
use Rattle.std.specs.Prelude.{map}
use Rattle.rb_money.specs.Settings.{Settings}
use Rattle.rb_money.specs.declared.refusal.Refusal.TheVariants.{HistoryFull}
use Rattle.rb_site.specs.declared.noted_reply.NotedReply.{NotedReply}
use Rattle.rb_site.specs.declared.entry.Entry.{Entry}
use Rattle.rb_site.specs.declared.event.Event.{Event}
use Rattle.rb_site.specs.declared.message.Message.{Message}
use Rattle.rb_site.specs.declared.reply.Reply.{Reply}
use Rattle.rb_site.specs.declared.reply.Reply.TheVariants.{Refused}
use Rattle.rb_site.specs.Events.{ModelSite, Outcome, changed, changes, is_full, outcome_of, reply_of, reply_to, sent_at, sent_by}
use Rattle.rb_site.specs.Events.{unless_full}
use Rattle.rb_site.specs.Seen.{SeenSite, entry, next_site, state_of, stepped}
use Rattle.rb_site.specs.Notes.{IsNoted, is_plain}
use Rattle.rb_site.specs.States.{Follows, IsStanding, Says, SiteState, plain, without_history}
use Rattle.rb_site.specs.Unchanging.{changes_site, next_if_changes, reply_at_full, reply_if_changes}
use Rattle.rb_site.proofs.Public.Runs
use Rattle.rb_site.proofs.Public.Seen
use Rattle.rb_site.proofs.Public.Outcomes.{same_outcome, changed-with_history, room_left}
use Rattle.rb_site.proofs.Public.Unchanging.{changed_nothing, sent_nothing}

-- the entry of an event and its reply at the end
abbrev pub noted_in : SeenSite → Event → Reply → SeenSite
noted_in x e reply = record x { entries = x.entries ++ entry e reply ∷ [] }

-- what the code did is the model's step
pub record IsStep (x : SeenSite) (now : SiteState) (before after : List Message) (e : Event) (a : NotedReply) : Type 0 where
  pub seen : noted_in x e a.reply ≡ next_site x e
  pub reply : a.reply ≡ reply_to x.settings (state_of x) e
  pub sent : after ≡ before ++ sent_at x.settings (state_of x) e
  pub standing : IsStanding (noted_in x e a.reply) now

-- an event comes to the same at a site and at the state that its history leads to
pub comes_alike : (x : SeenSite) (old : SiteState) (e : Event) → IsStanding x old →
    outcome_of old.settings old.site e ≡ outcome_of x.settings (state_of x) e
comes_alike x old e standing =
    ap (λ z. outcome_of z old.site e) standing.settings ∙ ap (λ u. outcome_of x.settings u e) standing.site
    ∙ same_outcome x.settings (state_of x) [] e

-- the reply to an outcome too
pub replies_alike : (x : SeenSite) (old : SiteState) (o p : Outcome) → IsStanding x old → o ≡ p →
    reply_of old.settings old.site.ops o ≡ reply_of x.settings (state_of x).ops p
replies_alike x old o p standing same =
    ap (reply_of old.settings old.site.ops) same
    ∙ ap (λ z. reply_of z old.site.ops p) standing.settings
    ∙ ap (λ (u : ModelSite). reply_of x.settings u.ops p) standing.site

-- if a site is the run of its history, which isn't full, what follows the event's outcome is the model's step
pub is_step : (keeps : Bool) (x : SeenSite) (old now : SiteState) (before after : List Message) (e : Event) (a : NotedReply) →
    is_full x.settings (state_of x) ≡ false → IsStanding x old → Follows keeps old now before after (outcome_of old.settings old.site e) a →
    IsStep x now before after e a
is_step keeps x old now before after e a free standing follows =
    record {
      seen = ap (noted_in x e) noted_reply ∙ sym (ap (λ b. cond b x (stepped x e)) free);
      reply = follows.1.0 ∙ given;
      sent = follows.2 ∙ ap (λ q. before ++ sent_by q) same ∙ sym (ap (λ b. before ++ cond b [] (sent_by o)) free);
      standing = subst (λ r. IsStanding (noted_in x e r) now) (sym noted_reply) (record {
        configured = standing.configured;
        kept = Seen.replayed-stepped x e (room_left x standing.kept free) standing.kept;
        settings = ap (λ (z : SiteState). z.settings) follows.0 ∙ standing.settings;
        site =
            ap (λ (z : SiteState). z.site) follows.0
            ∙ ap (changed old.site) same
            ∙ ap (λ u. changed u o) standing.site
            ∙ changed-with_history t [] o
            ∙ ap (λ b. without_history (cond b t (Runs.noted s t e))) (sym free)
            ∙ ap without_history (sym (Seen.state-stepped x e));
      });
    }
  where
    s : Settings
    s = x.settings

    t : ModelSite
    t = state_of x

    o : Outcome
    o = outcome_of s t e

    same : outcome_of old.settings old.site e ≡ o
    same = comes_alike x old e standing

    given : reply_of old.settings old.site.ops (outcome_of old.settings old.site e) ≡ reply_to s t e
    given =
        replies_alike x old _ o standing same
        ∙ sym (ap (λ b. cond b (Refused HistoryFull) (reply_of s t.ops o)) free)

    noted_reply : a.reply ≡ reply_to s t e
    noted_reply = follows.1.0 ∙ given

-- a site as clients see it, by its parts
abbrev pub seen_as : Settings → ℕ → List Entry → SeenSite
seen_as s me xs = record { settings = s; me = me; entries = xs }

-- if the entry was pushed, clients see the model's step
pub seen_now : (x : SeenSite) (now : SiteState) (before after : List Message) (e : Event) (a : NotedReply) (xs : List Entry) →
    IsStep x now before after e a → now.site.me ≡ x.me → xs ≡ x.entries ++ entry e a.reply ∷ [] →
    seen_as now.settings now.site.me xs ≡ noted_in x e a.reply
seen_now x now before after e a xs step me pushed =
    ap (λ s. seen_as s now.site.me xs) step.standing.settings
    ∙ ap (λ i. seen_as x.settings i xs) me
    ∙ ap (seen_as x.settings x.me) pushed

-- a step keeps the site's number
pub me_kept : (keeps : Bool) (old now : SiteState) (before after : List Message) (o : Outcome) (a : NotedReply) →
    Follows keeps old now before after o a → now.site.me ≡ old.site.me
me_kept keeps old now before after o a follows = ap (λ (z : SiteState). z.site.me) follows.0 ∙ Runs.same_me old.site o

-- a site is what its history leads to with the same entries, wherever they are kept
pub stands_as : {E : Type 0} (f : E → Entry) (old new : List E) (now : SiteState) → new ≡ old
    → IsStanding (seen_as now.settings now.site.me (map f old)) now → IsStanding (seen_as now.settings now.site.me (map f new)) now
stands_as {E} f old new now same =
    let P : List E → Type 0 = λ xs. IsStanding (seen_as now.settings now.site.me (map f xs)) now in subst P (sym same)

-- clients see the same site, wherever its entries are kept
pub seen_same : {E : Type 0} (f : E → Entry) (old new : List E) (now : SiteState) (x : SeenSite) → new ≡ old
    → seen_as now.settings now.site.me (map f old) ≡ x → seen_as now.settings now.site.me (map f new) ≡ x
seen_same f old new now x same is = ap (λ xs. seen_as now.settings now.site.me (map f xs)) same ∙ is

-- what is noted of the answer's reply, if it says another that is equal
pub noted_as : (keeps now : Bool) (a : NotedReply) (reply : Reply) → Says keeps a reply → keeps ≡ now → IsNoted now a.reply a.noted
noted_as keeps now a reply says same =
    subst (λ k. IsNoted k a.reply a.noted) same (subst (λ r. IsNoted keeps r a.noted) (sym says.0) says.1)

-- ---- events that change nothing

-- after an outcome that changes nothing the state is the same
pub stays : (keeps : Bool) (old now : SiteState) (before after : List Message) (o : Outcome) (a : NotedReply) → changes o ≡ false →
    Follows keeps old now before after o a → now ≡ old
stays keeps old now before after o a none follows = follows.0 ∙ ap (λ t. record old { site = t }) (changed_nothing old.site o none)

-- whether an event changes the site is whether it changes the state that the history leads to
pub changes_seen : (x y : SeenSite) (old : SiteState) (e : Event) (is b : Bool) → x ≡ y → IsStanding x old →
    is ≡ changes (outcome_of old.settings old.site e) → is ≡ b → changes_site y.settings (state_of y) e ≡ b
changes_seen x y old e is b same standing shown h =
    ap (λ (z : SeenSite). changes_site z.settings (state_of z) e) (sym same)
    ∙ sym (ap changes (comes_alike x old e standing))
    ∙ sym shown ∙ h

-- a full history doesn't let it change
pub next_full : (x : SeenSite) (e : Event) → is_full x.settings (state_of x) ≡ true → next_if_changes x e ≡ x
next_full x e full = by (changes_site x.settings (state_of x) e)
  where
    by : (b : Bool) → cond b (next_site x e) x ≡ x
    by true = ap (λ b. cond b x (stepped x e)) full
    by false = refl

-- the reply at a full history is that of the state that the history leads to
pub replies_full : (x : SeenSite) (old : SiteState) (e : Event) → IsStanding x old → is_full x.settings (state_of x) ≡ true →
    reply_at_full old.settings old.site e ≡ reply_if_changes x.settings (state_of x) e
replies_full x old e standing full =
    replies_alike x old _ _ standing (ap (unless_full true) (comes_alike x old e standing))
    ∙ ap (λ b. reply_of x.settings (state_of x).ops (unless_full b (outcome_of x.settings (state_of x) e))) (sym full)

-- nothing is noted for a history that keeps no replies
unnoted : (b : Bool) → (b && false) ≡ false
unnoted true = refl
unnoted false = refl

-- an event that changes nothing is a step of a history that keeps no replies
pub step_unchanging : (x : SeenSite) (old : SiteState) (e : Event) (reply : Reply) → is_full x.settings (state_of x) ≡ false →
    IsStanding x old → changes_site x.settings (state_of x) e ≡ false → reply ≡ reply_to x.settings (state_of x) e →
    IsStep x old [] [] e (plain reply)
step_unchanging x old e reply free standing none is =
    is_step false x old old [] [] e (plain reply) free standing (
      sym (ap (λ t. record old { site = t }) (changed_nothing old.site o still)),
      (
        is ∙ ap (λ b. cond b (Refused HistoryFull) (reply_of x.settings (state_of x).ops (outcome_of x.settings (state_of x) e))) free
            ∙ sym (replies_alike x old _ _ standing comes),
        unnoted (not (is_plain (reply_of old.settings old.site.ops o))),
      ),
      sym (sent_nothing o still),
    )
  where
    o : Outcome
    o = outcome_of old.settings old.site e

    comes : o ≡ outcome_of x.settings (state_of x) e
    comes = comes_alike x old e standing

    still : changes o ≡ false
    still = ap changes comes ∙ none
