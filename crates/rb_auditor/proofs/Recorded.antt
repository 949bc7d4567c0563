-- A history that a site records is what is left of the run of its events.
use Rattle.std.proofs.Common.{◌≡◌, ℕ, ◌<◌, ◌≤◌, true, false, cond, List, []}
use Rattle.std.proofs.Common.{◌∷◌, ◌++◌, length, refl, ap, sym, ◌∙◌, arith}
use Rattle.std.proofs.Common.{append_assoc, append-nil, length-append}
use Rattle.rb_money.specs.Settings.{Settings}
use Rattle.rb_site.specs.declared.entry.Entry.{Entry}
use Rattle.rb_site.specs.declared.event.Event.{Event}
use Rattle.rb_site.specs.Events.{first_site, is_full}
use Rattle.rb_site.specs.Histories.{events_of}
use Rattle.rb_site.specs.Seen.{Replays, SeenSite, entry, first_seen, next_site, next_sites, state_of, stepped}
use Rattle.rb_site.proofs.Public.Seen
use Rattle.rb_auditor.specs.Findings.{IsReplay}
use Rattle.rb_auditor.specs.Replays.{seen_at}
use Rattle.rb_auditor.proofs.Replaying

-- ---- a run keeps what the site is

settings_kept : (x : SeenSite) (es : List Event) → (next_sites x es).settings ≡ x.settings
settings_kept x [] = refl
settings_kept x (e ∷ es) = settings_kept (next_site x e) es ∙ Seen.settings-next x e

me_next : (x : SeenSite) (e : Event) → (next_site x e).me ≡ x.me
me_next x e = elim (is_full x.settings (state_of x)) as (λ b. (cond b x (stepped x e)).me ≡ x.me) [ true ↦ refl | false ↦ refl ]

me_kept : (x : SeenSite) (es : List Event) → (next_sites x es).me ≡ x.me
me_kept x [] = refl
me_kept x (e ∷ es) = me_kept (next_site x e) es ∙ me_next x e

-- ---- what is recorded

-- an entry that the site records is what its event leaves
pub step_on : (s : Settings) (i : ℕ) (xs ys : List Entry) (y : Entry) → IsReplay s i (xs ++ y ∷ ys)
    → next_site (seen_at s i xs) y.event ≡ seen_at s i (xs ++ y ∷ [])
step_on s i xs ys y r =
    let here = seen_at s i xs in
    let free : is_full s (state_of here) ≡ false =
    Replaying.not_full s (state_of here) (length xs) (Replaying.length_after s i xs (Replaying.replay-front s i xs (y ∷ ys) r))
    (omega (arith, r.room, length-append xs (y ∷ ys))) in
    ap (λ b. cond b here (stepped here y.event)) free
    ∙ ap (λ z. seen_at s i (xs ++ entry y.event z ∷ [])) (sym (Replaying.replays-at s (first_site i) xs ys y r.replays))

recorded_on : (s : Settings) (i : ℕ) (xs ys : List Entry) → IsReplay s i (xs ++ ys)
    → next_sites (seen_at s i xs) (events_of ys) ≡ seen_at s i (xs ++ ys)
recorded_on s i xs [] r = ap (seen_at s i) (sym (append-nil xs))
recorded_on s i xs (y ∷ ys) r =
    let rest = recorded_on s i (xs ++ y ∷ []) ys (rw append_assoc r) in cc (step_on s i xs ys y r, append_assoc xs (y ∷ []) ys)

-- the run of the events of a history that the site records leaves that history
pub recorded : (s : Settings) (i : ℕ) (h : List Entry) (x : SeenSite) (es : List Event) → es ≡ events_of h
    → x ≡ next_sites (first_seen s i) es → IsReplay s i h → x.entries ≡ h
recorded s i h x es events is r =
    ap (λ (z : SeenSite). z.entries) (is ∙ ap (next_sites (first_seen s i)) events ∙ recorded_on s i [] h r)

-- and a history that is left by a run is one that the site records
pub records : (s : Settings) (i : ℕ) (h : List Entry) (x : SeenSite) (es : List Event) → x ≡ next_sites (first_seen s i) es
    → i < s.sites → Replays x.settings (first_site x.me) x.entries → length x.entries ≤ x.settings.limits.history → x.entries ≡ h
    → IsReplay s i h
records s i h x es is within replays room same =
    let settings : x.settings ≡ s = cc (settings_kept (first_seen s i) es) in
    let me : x.me ≡ i = cc (me_kept (first_seen s i) es) in
    rw (← same) (record { within = within; replays = rw (settings, me) at replays; room = rw settings at room })
