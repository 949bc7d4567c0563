-- The messages of a site fit a line, whatever its events.
use Rattle.rb_history.proofs.Words.{IsEvent, IsRefusal, IsReply, IsShadow, IsValid-front, IsValid-none, IsValid-push, taken_rightly}
use Rattle.rb_history.proofs.Words.{clock_is_clock, refusal_of_sound, IsValid, and_then, unless, IsConfigured, Settings, is_account}
use Rattle.rb_history.proofs.Words.{Refusal, BadBatch, BadMessage, Conflict, InboxFull, NotHeld, NotReady, PositionBeyond, UnknownAccount}
use Rattle.rb_history.proofs.Words.{batch_of, made_of, operation_of, found, sound_facts, IsName, Among, find_in, is_eligible, red_count}
use Rattle.rb_history.proofs.Words.{same_shadow, clock_of, IsSound, are_entries, fault_of, Shadow, Answers, Drops, Holds, Makes, MakesAll}
use Rattle.rb_history.proofs.Words.{ModelSite, Outcome, Passes, Refuses, Takes, after_event, after_events, changed, first_site, is_full}
use Rattle.rb_history.proofs.Words.{outcome_of_check, sent_at, sent_by, unless_known, outcome_of, Event, Apply, AsOf, Balance, Batch, Pass}
use Rattle.rb_history.proofs.Words.{Receive, AskStatement, Submit, Message, ShadowMessage, TokenOnItsWay, Reply, Already, Stale, Token}
use Rattle.rb_history.proofs.Words.{is_stale, pass_message, refusal_of_pass, refusal_of_token, TokenMessage, Bool, Err, IfSome, List, None}
use Rattle.rb_history.proofs.Words.{Ok, Option, Result, Some, [], ap, append-nil, append_assoc, arith, cond, drop, false, inl, inr, length}
use Rattle.rb_history.proofs.Words.{not, refl, rules, subst, sym, take, take-append-drop, true, ℕ, ◌&&◌, ◌++◌, ◌+◌, ◌<◌, ◌==◌, ◌^◌, ◌||◌}
use Rattle.rb_history.proofs.Words.{◌∷◌, ◌≡◌, ◌≤◌, and_parts, not-false, nat_tests, IfErr, filter, map, nat_le, nat_lt}
use Rattle.rb_shadow.proofs.Public.Members.{or-false}
use Rattle.rb_inbox.proofs.Public.{held_cases, kept_among}
use Rattle.rb_scratch.specs.declared.request.TheConstants.{MOST_REQUESTS}
use Rattle.rb_scratch.proofs.Public.Made.{AreMadeAt, IsMadeAt, batch_is, made_is}
use Rattle.rb_scratch.proofs.Public.Makes.{made_follows}
use Rattle.rb_site.specs.Histories.{IsAmong, sends_of}
use Rattle.rb_site.proofs.Public.Stuck.{among-cases}
use Rattle.rb_history.proofs.CausesFit.{batch_fits, check_fits, fault_fits, pass_fits, request_fits, token_fits}
use Rattle.rb_history.proofs.FitsLaws.{IsWord}
use Rattle.rb_history.proofs.StatementsFit.{facts_name, made_fits, balance_fits}

-- what holds of a site, whatever its events: its list is valid, what it holds is sound, and the token is within the
-- limits
pub record IsInOrder (s : Settings) (t : ModelSite) : Type 0 where
  pub me : t.me < s.sites
  pub valid : IsValid s t.ops
  pub held : (v : Shadow) → Among v t.held → IsSound s v
  pub needed : t.token.needed ≤ s.limits.red

-- the messages fit lines
abbrev pub AllFit : Settings → List Message → Type 0
AllFit s ms = (m : Message) → IsAmong m ms → IsEvent s (Receive m)

-- what an outcome says beside operations fits: a refusal, an answer, or a token that is taken
abbrev pub Says : Outcome → Type 0
Says (Refuses why) = IsRefusal why
Says (Drops x why) = IsRefusal why
Says (Answers reply) = IsReply reply
Says (Takes m) = IsWord m.epoch
Says _ = Unit {0}

-- an outcome keeps a site in order, and what it sends and says fits
pub record Keeps (s : Settings) (t : ModelSite) (o : Outcome) : Type 0 where
  pub order : IsInOrder s (changed t o)
  pub sends : AllFit s (sent_by o)
  pub says : Says o

none_fit : (s : Settings) → AllFit s []
none_fit s m h = absurd h

-- ---- outcomes

refuses : (s : Settings) (t : ModelSite) (why : Refusal) → IsInOrder s t → IsRefusal why → Keeps s t (Refuses why)
refuses s t why g r = record { order = g; sends = none_fit s; says = r }

answers : (s : Settings) (t : ModelSite) (reply : Reply) → IsInOrder s t → IsReply reply → Keeps s t (Answers reply)
answers s t reply g r = record { order = g; sends = none_fit s; says = r }

-- a condition that refuses, and else what comes next
if_not : (s : Settings) (t : ModelSite) (b : Bool) (why : Refusal) (next : Outcome) → IsInOrder s t → IsRefusal why
    → (b ≡ false → Keeps s t next) → Keeps s t (cond b (Refuses why) next)
if_not s t true why next g r h = refuses s t why g r
if_not s t false why next g r h = h refl

-- a refusal if there is one, and else what comes next
if_none : {E : Type 0} (s : Settings) (t : ModelSite) (refused : E → Refusal) (o : Option E) (next : Outcome) → IsInOrder s t
    → IfSome o (λ x. IsRefusal (refused x)) → (o ≡ None → Keeps s t next) → Keeps s t (unless (λ why. Refuses (refused why)) o next)
if_none s t refused (Some why) next g r h = refuses s t (refused why) g r
if_none s t refused None next g r h = h refl

if_unknown : (s : Settings) (t : ModelSite) (v : Shadow) (o : Option Shadow) (next : Outcome) → IsInOrder s t → IsName v.name
    → Keeps s t next → Keeps s t (unless_known v o next)
if_unknown s t v None next g name h = h
if_unknown s t v (Some u) next g name h =
    elim (same_shadow u v) as (λ b. Keeps s t (cond b (Answers (Already v.name)) (Refuses Conflict)))
    [ true ↦ answers s t (Already v.name) g name | false ↦ refuses s t Conflict g tt ]

holds : (s : Settings) (t : ModelSite) (v : Shadow) → IsInOrder s t → IsSound s v → Keeps s t (Holds v)
holds s t v g sound =
    let held : (u : Shadow) → Among u (changed t (Holds v)).held → IsSound s u = λ u h.
    elim (held_cases v t.held u h) [ inl same ↦ subst (IsSound s) (sym same) sound | inr there ↦ g.held u there ] in
    record { order = record { me = g.me; valid = g.valid; held = held; needed = g.needed }; sends = none_fit s; says = tt }

fewer_held : (s : Settings) (t : ModelSite) (p : Shadow → Bool) → IsInOrder s t → (v : Shadow) → Among v (filter p t.held) → IsSound s v
fewer_held s t p g v h = g.held v (kept_among p t.held v h)

-- a held operation that is checked
checks : (s : Settings) (t : ModelSite) (v : Shadow) → IsInOrder s t → IsSound s v → (o : Option Refusal) → refusal_of_sound s t.ops v ≡ o
    → IfSome o IsRefusal → Keeps s t (outcome_of_check v o)
checks s t v g sound None e r = record {
  order = record { me = g.me; valid = taken_rightly s t.ops v g.valid sound (sym e); held = fewer_held s t _ g; needed = g.needed };
  sends = none_fit s;
  says = tt;
}
checks s t v g sound (Some NotReady) e r = refuses s t NotReady g tt
checks s t v g sound (Some _) e r = record {
  order = record { me = g.me; valid = g.valid; held = fewer_held s t _ g; needed = g.needed };
  sends = none_fit s;
  says = r;
}

applies : (s : Settings) (t : ModelSite) → IsInOrder s t → (o : Option Shadow) → ((v : Shadow) → o ≡ Some v → IsSound s v)
    → Keeps s t (unless (λ v. cond (not (is_eligible t.ops v)) (Refuses NotReady) (outcome_of_check v (refusal_of_sound s t.ops v))) o
    (Refuses NotHeld))
applies s t g None sound = refuses s t NotHeld g tt
applies s t g (Some v) sound =
    if_not s t (not (is_eligible t.ops v)) NotReady _ g tt (λ e.
    checks s t v g (sound v refl) (refusal_of_sound s t.ops v) refl (check_fits s t.ops v))

-- ---- what is made

-- a list with what is made after it is valid, and what is made fits
record Grows (s : Settings) (us vs : List Shadow) : Type 0 where
  valid : IsValid s (us ++ vs)
  fit : (v : Shadow) → Among v vs → IsShadow s v

one_grows : (s : Settings) → IsConfigured s → (me : ℕ) (us : List Shadow) (token : Token) (v : Shadow) → me < s.sites → IsValid s us
    → IsMadeAt s me us token v → IsValid s (us ++ v ∷ []) × IsShadow s v
unfolding operation_of
one_grows s c me us token v low valid made =
    let may = made_follows s me us token v c.few_sites low valid made in
    (IsValid-push s us v valid may, made_fits s c us v valid may (ap (λ (u : Shadow). u.deps) made.is))

all_grow : (s : Settings) → IsConfigured s → (me : ℕ) (us : List Shadow) (token : Token) (vs : List Shadow) → me < s.sites → IsValid s us
    → AreMadeAt s me us token vs → Grows s us vs
all_grow s c me us token [] low valid made = record { valid = subst (IsValid s) (sym (append-nil us)) valid; fit = λ v h. absurd h }
all_grow s c me us token (v ∷ vs) low valid made =
    let one = one_grows s c me us token v low valid made.0 in
    let later = all_grow s c me (us ++ v ∷ []) token vs low one.0 made.1 in record {
      valid = subst (IsValid s) (append_assoc us (v ∷ []) vs) later.valid;
      fit = λ u h. elim h [ inl same ↦ subst (IsShadow s) (sym same) one.1 | inr there ↦ later.fit u there ];
    }

sent_fit : (s : Settings) (vs : List Shadow) → ((v : Shadow) → Among v vs → IsShadow s v) → AllFit s (map ShadowMessage vs)
sent_fit s [] fit m h = absurd h
sent_fit s (v ∷ vs) fit m (inl same) = subst (λ n. IsEvent s (Receive n)) (sym same) (fit v (inl refl))
sent_fit s (v ∷ vs) fit m (inr there) = sent_fit s vs (λ u h. fit u (inr h)) m there

makes : (s : Settings) (t : ModelSite) (v : Shadow) → IsInOrder s t → Grows s t.ops (v ∷ []) → Keeps s t (Makes v)
makes s t v g grown = record { order = search rules; sends = sent_fit s (v ∷ []) grown.fit; says = tt }

makes_all : (s : Settings) (t : ModelSite) (vs : List Shadow) → IsInOrder s t → Grows s t.ops vs → Keeps s t (MakesAll vs)
makes_all s t vs g grown = record { order = search rules; sends = sent_fit s vs grown.fit; says = tt }

-- a refusal if nothing is made, and else what is made
if_made : {A : Type 0} (s : Settings) (t : ModelSite) (made : A → Outcome) (q : Result A Refusal) → IsInOrder s t → IfErr q IsRefusal
    → ((x : A) → q ≡ Ok x → Keeps s t (made x)) → Keeps s t (and_then Refuses q made)
if_made s t made (Ok x) g h k = k x refl
if_made s t made (Err why) g h k = refuses s t why g h

-- ---- the token

-- a condition before others doesn't refuse if nothing does
pub past_first : (b : Bool) (why : Refusal) (next : Option Refusal) → cond b (Some why) next ≡ None → (b ≡ false) × (next ≡ None)
past_first true why next e = absurd (cc)
past_first false why next e = (refl, e)

-- a token that isn't refused is of few epochs, and has seen few red operations
few : (s : Settings) → IsConfigured s → (me : ℕ) (m : TokenMessage) → refusal_of_token s.limits me m ≡ None
    → IsWord m.epoch × (m.red ≤ s.limits.red)
few s c me m e =
    let mine = past_first (not (m.to == me)) _ _ e in
    let within = past_first (nat_lt s.limits.epoch m.epoch || nat_lt s.limits.red m.red) _ _ mine.1 in
    let both = or-false (nat_lt s.limits.epoch m.epoch) (nat_lt s.limits.red m.red) within.0 in
    let low : m.epoch ≤ s.limits.epoch = let h = both.0 in grind (arith, nat_tests) in
    let most = c.epoch.1 in
    (omega arith, let h = both.1 in grind (arith, nat_tests))

clock_reds : (us : List Shadow) (most : ℕ) → nat_le (clock_of us).red most ≡ true → red_count us ≤ most
unfolding clock_of
clock_reds us most h = grind (arith, nat_tests)

-- a valid list has few red operations
pub few_reds : (s : Settings) (us : List Shadow) → IsValid s us → red_count us ≤ s.limits.red
few_reds s us valid = clock_reds us s.limits.red
    (and_parts (are_entries s.sites s.limits.blue (clock_of us).blue) (nat_le (clock_of us).red s.limits.red) (clock_is_clock s us valid)).1

passes : (s : Settings) → IsConfigured s → (t : ModelSite) (to : ℕ) → IsInOrder s t
    → refusal_of_pass s.sites s.limits t.me t.token to ≡ None → Keeps s t (Passes (pass_message t.token to (red_count t.ops)))
passes s c t to g e =
    let there = past_first (nat_le s.sites to || (to == t.me)) _ _ e in
    let left = past_first (nat_lt s.limits.epoch (t.token.epoch + 1)) _ _ there.1 in
    let low : to < s.sites = let h = (or-false (nat_le s.sites to) (to == t.me) there.0).0 in grind (arith, nat_tests) in
    let epochs : t.token.epoch + 1 ≤ s.limits.epoch = let h = left.0 in grind (arith, nat_tests) in
    let few = c.few_sites in
    let most_epochs = c.epoch.1 in
    let most_reds = c.red.1 in
    let needed = g.needed in
    let reds = few_reds s t.ops g.valid in
    let fits : IsEvent s (Receive (TokenOnItsWay (pass_message t.token to (red_count t.ops)))) = (omega arith, omega arith, omega arith) in
    record {
      order = search rules;
      sends = λ m h. elim h [ inl same ↦ subst (λ n. IsEvent s (Receive n)) (sym same) fits | inr never ↦ absurd never ];
      says = tt;
    }

-- ---- one event, and all

few_needed : (s : Settings) → IsConfigured s → (n : ℕ) → n ≤ s.limits.red → IsWord n
few_needed s c n low = let most = c.red.1 in omega arith

-- the name of a sound operation fits a line
pub sound_name : (s : Settings) → IsConfigured s → (v : Shadow) → IsSound s v → IsName v.name
sound_name s c v sound = facts_name s c v (sound_facts s v sound)

-- an event keeps a site in order, and what it sends and says fits
pub keeps : (s : Settings) → IsConfigured s → (t : ModelSite) → IsInOrder s t → (e : Event) → Keeps s t (outcome_of s t e)
unfolding outcome_of
keeps s c t g (Submit r) =
    if_made s t Makes (made_of s t.me t.ops t.token r) g (request_fits s c t.me t.ops t.token r g.valid
    (few_needed s c (red_count t.ops) (few_reds s t.ops g.valid)) (few_needed s c t.token.needed g.needed)) (λ v e.
    makes s t v g (all_grow s c t.me t.ops t.token (v ∷ []) g.me g.valid (made_is s t.me t.ops t.token r v e, tt)))
keeps s c t g (Batch rs) =
    if_not s t (not (nat_le 1 (length rs) && nat_le (length rs) MOST_REQUESTS)) BadBatch _ g tt (λ e.
    if_made s t MakesAll (batch_of s t.me t.ops t.token 0 rs) g (batch_fits s t.me t.ops t.token 0 rs (few_requests e)) (λ vs f.
    makes_all s t vs g (all_grow s c t.me t.ops t.token vs g.me g.valid (batch_is s t.me t.ops t.token 0 rs vs f))))
  where
    few_requests : not (nat_le 1 (length rs) && nat_le (length rs) MOST_REQUESTS) ≡ false → 0 + length rs ≤ 2 ^ 8
    few_requests e =
        let low = (and_parts (nat_le 1 (length rs)) (nat_le (length rs) MOST_REQUESTS) (not-false _ e)).1 in
        let most : length rs ≤ MOST_REQUESTS = grind (arith, nat_tests) in
        omega arith
keeps s c t g (Receive (ShadowMessage v)) =
    if_none s t BadMessage (fault_of s v) _ g (fault_fits s v) (λ sound.
    let name = sound_name s c v sound in
    if_unknown s t v (find_in t.ops v.name) _ g name
    (if_not s t (v.home == t.me) Conflict _ g tt (λ e.
    if_unknown s t v (find_in t.held v.name) _ g name
    (if_not s t (nat_le s.limits.inbox (length t.held) && not (is_eligible t.ops v)) InboxFull (Holds v) g tt (λ e. holds s t v g sound)))))
keeps s c t g (Receive (TokenOnItsWay m)) =
    if_none s t (λ why. why) (refusal_of_token s.limits t.me m) _ g (token_fits s.limits t.me m) (λ e.
    let low = few s c t.me m e in
    elim (is_stale t.token m) as (λ b. Keeps s t (cond b (Answers (Stale m.epoch)) (Takes m))) [
      | true ↦ answers s t (Stale m.epoch) g low.0
      | false ↦ record { order = record { me = g.me; valid = g.valid; held = g.held; needed = low.1 }; sends = none_fit s; says = low.0 }
    ])
keeps s c t g (Apply x) = applies s t g (find_in t.held x) (λ v e. g.held v (found t.held x v e).0)
keeps s c t g (Pass to) =
    if_none s t (λ why. why) (refusal_of_pass s.sites s.limits t.me t.token to) _ g (pass_fits s.sites s.limits t.me t.token to)
    (passes s c t to g)
keeps s c t g (Balance a) =
    if_not s t (not (is_account s a)) UnknownAccount _ g tt (λ e. answers s t _ g (balance_fits s c t.ops a g.valid))
keeps s c t g (AsOf a n) =
    let valid = subst (IsValid s) (sym (take-append-drop n t.ops)) g.valid in
    if_not s t (not (is_account s a)) UnknownAccount _ g tt (λ e. if_not s t (nat_lt (length t.ops) n) PositionBeyond _ g tt (λ f.
    answers s t _ g (balance_fits s c (take n t.ops) a (IsValid-front s (take n t.ops) (drop n t.ops) valid))))
keeps s c t g (AskStatement a) =
    if_not s t (not (is_account s a)) UnknownAccount _ g tt (λ e. record { order = g; sends = none_fit s; says = tt })

-- the same of an event that may find the history full
stays : (s : Settings) → IsConfigured s → (t : ModelSite) → IsInOrder s t → (e : Event) →
    IsInOrder s (after_event s t e) × AllFit s (sent_at s t e)
stays s c t g e =
    let k = keeps s c t g e in
    let o = k.order in
    elim (is_full s t) as (λ b. IsInOrder s (cond b t (record (changed t (outcome_of s t e)) { history = t.history ++ e ∷ [] }))
    × AllFit s (cond b [] (sent_by (outcome_of s t e)))) [ true ↦ (g, none_fit s) | false ↦ (search rules, k.sends) ]

all_fit : (s : Settings) → IsConfigured s → (es : List Event) (t : ModelSite) → IsInOrder s t → AllFit s (sends_of s t es)
all_fit s c [] t g m h = absurd h
all_fit s c (e ∷ es) t g m h =
    let now = stays s c t g e in
    elim (among-cases m (sent_at s t e) (sends_of s (after_event s t e) es) h) [
      | inl here ↦ now.1 m here
      | inr there ↦ all_fit s c es (after_event s t e) now.0 m there
    ]

-- a site before any event is in order
pub first_in_order : (s : Settings) → IsConfigured s → (me : ℕ) → me < s.sites → IsInOrder s (first_site me)
first_in_order s c me low = record { me = low; valid = IsValid-none s; held = λ v h. absurd h; needed = omega arith }

-- and so is one after any events
pub in_order : (s : Settings) → IsConfigured s → (es : List Event) (t : ModelSite) → IsInOrder s t → IsInOrder s (after_events s t es)
in_order s c [] t g = g
in_order s c (e ∷ es) t g = in_order s c es (after_event s t e) (stays s c t g e).0

-- each message that a site sends fits a line
pub sends_fit : (s : Settings) → IsConfigured s → (me : ℕ) → me < s.sites → (es : List Event) (m : Message)
    → IsAmong m (sends_of s (first_site me) es) → IsEvent s (Receive m)
sends_fit s c me low es = all_fit s c es (first_site me) (first_in_order s c me low)
