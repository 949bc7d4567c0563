-- Each handler of a site does what the event comes to.
use Rattle.std.proofs.Common.{◌≡◌, ℕ, ◌≤◌, Bool, true, false, cond, not, ◌&&◌, ◌⊎◌, inl, inr, List, [], ◌∷◌, ◌++◌, length, refl, ap, sym}
use Rattle.std.proofs.Common.{subst, ◌∙◌, arith, Option, Some, None, append-nil, Result, Ok, Err, OnOk, take}
use Rattle.std.specs.Prelude.{nat_le, nat_lt, option_map, ◌==◌}
use Rattle.std.proofs.lemmas.Bool.{eq-eqb, ne_eqb}
use Rattle.std.proofs.lemmas.Bool.Decides.{nat_tests}
use Rattle.rb_money.specs.Amounts.{cents}
use Rattle.rb_money.specs.Refusals.{and_then, unless}
use Rattle.rb_money.specs.Settings.{Settings, is_account}
use Rattle.rb_money.specs.declared.place.Place.{Place}
use Rattle.rb_money.specs.declared.refusal.Refusal.{Refusal}
use Rattle.rb_money.specs.declared.refusal.Refusal.TheVariants.{BadMessage, NotHeld, NotReady, InboxFull, Conflict, OutOfMemory}
use Rattle.rb_money.specs.declared.refusal.Refusal.TheVariants.{PositionBeyond, UnknownAccount}
use Rattle.rb_shadow.proofs.Public.Eligible
use Rattle.rb_shadow.proofs.Public.SameShadows
use Rattle.rb_shadow.specs.Labels.{label_of}
use Rattle.rb_shadow.specs.Operations.{Among, bal, find_in, is_eligible, names, names_of_clock, red_count, same_shadow}
use Rattle.rb_shadow.specs.Sound.{IsSound, fault_of}
use Rattle.rb_shadow.specs.declared.op_name.OpName.{OpName}
use Rattle.rb_shadow.specs.declared.deps.Deps.{Deps}
use Rattle.rb_shadow.specs.declared.shadow.Shadow.{Shadow}
use Rattle.rb_ledger.proofs.Public.ValidClocks
use Rattle.rb_ledger.specs.Book.{IsClocked}
use Rattle.rb_ledger.specs.Checks.{refusal_of, refusal_of_sound}
use Rattle.rb_inbox.proofs.Public.{held_cases, kept_among}
use Rattle.rb_shadow.proofs.Public.Lookups
use Rattle.rb_inbox.specs.Held.{Holding, IsInConflict, IsReady, IsTooMany, IsWelcome, index_in_row, with_held, without}
use Rattle.rb_scratch.specs.Requests.{made_of}
use Rattle.rb_scratch.specs.declared.request.Request.{Request}
use Rattle.rb_statements.specs.Statements.{balance_as_of}
use Rattle.rb_token.specs.Seen.{SeenToken}
use Rattle.rb_token.specs.Token.{Token, pass_message, passed_token, refusal_of_pass}
use Rattle.rb_token.specs.declared.message.TokenMessage.{TokenMessage}
use Rattle.rb_site.specs.declared.noted_reply.NotedReply.{NotedReply}
use Rattle.rb_site.specs.declared.reply.Reply.{Reply}
use Rattle.rb_site.specs.Notes.{IsNoted, is_plain}
use Rattle.rb_site.specs.declared.reply.Reply.TheVariants.{Held, Already, Applied, Balance as BalanceIs, Made, Passed, Refused}
use Rattle.rb_site.specs.declared.event.Event.{Event}
use Rattle.rb_site.specs.declared.event.Event.TheVariants.{Apply, AsOf, Pass, Receive, Submit}
use Rattle.rb_site.specs.declared.message.Message.{Message}
use Rattle.rb_site.specs.declared.message.Message.TheVariants.{Shadow as ShadowMessage, Token as TokenOnItsWay}
use Rattle.rb_site.specs.Events.{ModelSite, Outcome, Refuses, Drops, Answers, Holds, Makes, Passes, outcome_of, outcome_of_check}
use Rattle.rb_site.specs.Events.{outcome_of_new, reply_of, unless_known}
use Rattle.rb_site.specs.States.{Follows, IsTied, Says, SiteState, noting, plain}

-- what follows an outcome follows an equal one
pub follows_as : (keeps : Bool) (old now : SiteState) (before after : List Message) (o p : Outcome) (a : NotedReply) → o ≡ p →
    Follows keeps old now before after p a → Follows keeps old now before after o a
follows_as keeps old now before after o p a e h = let P : Outcome → Type 0 = λ q. Follows keeps old now before after q a in
    subst P (sym e) h

-- the answer is plain, and nothing is sent
abbrev pub AnswersAlone : SiteState → SiteState → Outcome → NotedReply → Type 0
AnswersAlone old now o a = Follows true old now [] [] o a

-- what answers an outcome alone answers an equal one
abbrev pub answers_as : (old now : SiteState) (o p : Outcome) (a : NotedReply) → o ≡ p → AnswersAlone old now p a → AnswersAlone old now o a
answers_as old now o p a e h = follows_as true old now [] [] o p a e h

-- what is noted for a history that keeps replies does for any
pub noted_less : (keeps : Bool) (reply : Reply) (noted : Option Reply) → IsNoted true reply noted → IsNoted keeps reply noted
noted_less keeps reply (Some n) h = h
noted_less keeps reply None h = by (is_plain reply) h
  where
    by : (b : Bool) → (not b && true) ≡ false → (not b && keeps) ≡ false
    by true e = refl
    by false e = cc

-- what follows an outcome for a history that keeps replies does so for any
pub follows_less : (keeps : Bool) (old now : SiteState) (before after : List Message) (o : Outcome) (a : NotedReply) →
    Follows true old now before after o a → Follows keeps old now before after o a
follows_less keeps old now before after o a h = (h.0, (h.1.0, noted_less keeps (reply_of old.settings old.site.ops o) a.noted h.1.1), h.2)

-- if nothing is sent, the messages stay
pub follows_silent : (keeps : Bool) (old now : SiteState) (before : List Message) (o : Outcome) (a : NotedReply) →
    Follows keeps old now [] [] o a → Follows keeps old now before before o a
follows_silent keeps old now before o a h = (h.0, h.1, sym (append-nil before) ∙ ap (λ ms. before ++ ms) h.2)

-- a plain answer with which nothing is sent, among any messages and for any history
pub follows_plain : (keeps : Bool) (old now : SiteState) (before : List Message) (o : Outcome) (a : NotedReply) → AnswersAlone old now o a →
    Follows keeps old now before before o a
follows_plain keeps old now before o a h = follows_silent keeps old now before o a (follows_less keeps old now [] [] o a h)

-- what follows with an answer follows with an equal one
pub follows_with : (keeps : Bool) (old now : SiteState) (before after : List Message) (o : Outcome) (a b : NotedReply) → a ≡ b →
    Follows keeps old now before after o b → Follows keeps old now before after o a
follows_with keeps old now before after o a b e h = let P : NotedReply → Type 0 = λ x. Follows keeps old now before after o x in
    subst P (sym e) h

-- what a handler answers to an event is answered to an equal one, for any history, if nothing is noted
pub handled : {A E : Type 0} (keeps : Bool) (old now : SiteState) (before after : List Message) (d e : Event) (r : Result A E)
    (reply : Reply) (noted : Option Reply) → d ≡ e → noted ≡ None →
    OnOk r (Follows true old now before after (outcome_of old.settings old.site e) (plain reply))
    → OnOk r (Follows keeps old now before after (outcome_of old.settings old.site d) (noting reply noted))
handled keeps old now before after d e (Ok a) reply noted same none h =
    follows_with keeps old now before after _ _ (plain reply) (ap (noting reply) none) (follows_less keeps old now before after _
    (plain reply)
    (follows_as true old now before after _ _ (plain reply) (ap (outcome_of old.settings old.site) same) h))
handled keeps old now before after d e (Err why) reply noted same none h = tt

-- the same if nothing is sent
pub handled_silent : {A E : Type 0} (keeps : Bool) (old now : SiteState) (before : List Message) (d e : Event) (r : Result A E)
    (reply : Reply) (noted : Option Reply) → d ≡ e → noted ≡ None →
    OnOk r (AnswersAlone old now (outcome_of old.settings old.site e) (plain reply))
    → OnOk r (Follows keeps old now before before (outcome_of old.settings old.site d) (noting reply noted))
handled_silent keeps old now before d e (Ok a) reply noted same none h =
    follows_with keeps old now before before _ _ (plain reply) (ap (noting reply) none) (follows_plain keeps old now before _ (plain reply)
    (answers_as old now _ _ (plain reply) (ap (outcome_of old.settings old.site) same) h))
handled_silent keeps old now before d e (Err why) reply noted same none h = tt

-- a state by its parts
abbrev pub state_as : Settings → ℕ → List Shadow → List Shadow → Token → SiteState
state_as s me ops held token = record { settings = s; site = record { me = me; ops = ops; held = held; token = token; history = [] } }

-- a site by its parts, its history left out
abbrev pub site_as : ℕ → List Shadow → List Shadow → Token → ModelSite
site_as me ops held token = record { me = me; ops = ops; held = held; token = token; history = [] }

-- ---- the token goes to another site

-- a pass that nothing refuses: the token's message is sent, and the site has the token no more
pub passes : (s : Settings) (me : ℕ) (ops held : List Shadow) (token later : Token) (to reds : ℕ) (m : TokenMessage)
    (before after : List Message) (a : NotedReply)
    → refusal_of_pass s.sites s.limits me token to ≡ None → reds ≡ red_count ops → m ≡ pass_message token to reds →
    later ≡ passed_token token m → Says true a (Passed m.epoch) → after ≡ before ++ TokenOnItsWay m ∷ []
    → Follows true (state_as s me ops held token) (state_as s me ops held later) before after
    (outcome_of s (site_as me ops held token) (Pass to)) a
unfolding outcome_of
passes s me ops held token later to reds m before after a allowed count sent passed is posted =
    let comes : unless Refuses (refusal_of_pass s.sites s.limits me token to) (Passes (pass_message token to (red_count ops))) ≡ Passes m =
    ap (λ r. unless Refuses r (Passes (pass_message token to (red_count ops)))) allowed
    ∙ ap Passes (ap (pass_message token to) (sym count) ∙ sym sent) in
    follows_as true _ _ before after _ _ a comes (ap (state_as s me ops held) passed, is, posted)

-- with another view of the token, a site is still tied to the rest
pub tied_passed : (s : Settings) (inbox : Holding) (old later : SeenToken) (token : Token) → later ≡ record old { token = token } →
    IsTied s inbox old → IsTied s inbox later
tied_passed s inbox old later token passed tied =
    let P : SeenToken → Type 0 = λ t. IsTied s inbox t in
    subst P (sym passed) (record {
      me = tied.me;
      sites = tied.sites;
      limits = tied.limits;
      limit = tied.limit;
      sound = tied.sound;
    })

-- a pass that is refused: nothing changes
pub refuses_pass : (z : SiteState) (to : ℕ) (why : Refusal) (before : List Message) (a : NotedReply) →
    refusal_of_pass z.settings.sites z.settings.limits z.site.me z.site.token to ≡ Some why → Says true a (Refused why)
    → Follows true z z before before (outcome_of z.settings z.site (Pass to)) a
unfolding outcome_of
refuses_pass z to why before a refused is = follows_as true z z before before _ (Refuses why) a
    (ap (λ r. unless Refuses r (Passes (pass_message z.site.token to (red_count z.site.ops)))) refused) (refl, is, sym (append-nil before))

-- ---- a request is made

-- what a request comes to, by what it makes
pub submit_comes : (s : Settings) (t : ModelSite) (r : Request) (q : Result Shadow Refusal) → made_of s t.me t.ops t.token r ≡ q →
    outcome_of s t (Submit r) ≡ and_then Refuses q Makes
unfolding outcome_of
submit_comes s t r q made = ap (λ o. and_then Refuses o Makes) made

-- what was made is made in the state, if it has the same settings, site and list
pub made_here : (z : SiteState) (now : Settings) (here : ℕ) (them : List Shadow) (r : Request) (q : Result Shadow Refusal)
    → now ≡ z.settings → here ≡ z.site.me → them ≡ z.site.ops → q ≡ made_of now here them z.site.token r
    → made_of z.settings z.site.me z.site.ops z.site.token r ≡ q
made_here z now here them r q same at list made =
    ap (λ us. made_of z.settings z.site.me us z.site.token r) (sym list)
    ∙ ap (λ i. made_of z.settings i them z.site.token r) (sym at)
    ∙ ap (λ s. made_of s here them z.site.token r) (sym same)
    ∙ sym made

-- a request that can't be made: it is refused, and nothing changes
pub refuses_request : (z : SiteState) (r : Request) (why : Refusal) (before : List Message) (a : NotedReply) →
    made_of z.settings z.site.me z.site.ops z.site.token r ≡ Err why → Says true a (Refused why)
    → Follows true z z before before (outcome_of z.settings z.site (Submit r)) a
refuses_request z r why before a refused is =
    follows_as true z z before before _ _ a (submit_comes z.settings z.site r (Err why) refused) (refl, is, sym (append-nil before))

-- a request that is made: its operation is applied, named and sent
pub makes_request : (s : Settings) (me : ℕ) (ops held : List Shadow) (token : Token) (r : Request) (v : Shadow)
    (before after : List Message) (a : NotedReply) → made_of s me ops token r ≡ Ok v → Says true a (Made v.name (label_of v.kind))
    → after ≡ before ++ ShadowMessage v ∷ [] → Follows true (state_as s me ops held token) (state_as s me (ops ++ v ∷ []) held token)
    before after (outcome_of s (site_as me ops held token) (Submit r)) a
makes_request s me ops held token r v before after a made is posted =
    follows_as true _ _ before after _ _ a (submit_comes s (site_as me ops held token) r (Ok v) made) (refl, is, posted)

-- ---- an account's balance at a position

-- what it comes to, by the balance or why there is none
as_of_comes : (s : Settings) (t : ModelSite) (a : Place) (n : ℕ) (q : Result ℕ Refusal) → q ≡ balance_as_of s t.ops a n →
    outcome_of s t (AsOf a n) ≡ and_then Refuses q (λ k. Answers (BalanceIs k))
unfolding outcome_of
as_of_comes s t a n q is = by (is_account s a) (nat_lt (length t.ops) n) (cents (bal s (take n t.ops) a))
    ∙ ap (λ o. and_then Refuses o (λ k. Answers (BalanceIs k))) (sym is)
  where
    by : (b c : Bool) (k : ℕ) → cond (not b) (Refuses UnknownAccount) (cond c (Refuses PositionBeyond) (Answers (BalanceIs k)))
        ≡ and_then Refuses (cond (not b) (Err UnknownAccount) (cond c (Err PositionBeyond) (Ok k))) (λ i. Answers (BalanceIs i))
    by false c k = refl
    by true true k = refl
    by true false k = refl

-- the balance is answered
pub answers_as_of : (z : SiteState) (a : Place) (n k : ℕ) (given : NotedReply) → Ok k ≡ balance_as_of z.settings z.site.ops a n →
    Says true given (BalanceIs k) → AnswersAlone z z (outcome_of z.settings z.site (AsOf a n)) given
answers_as_of z a n k given known is = answers_as z z _ _ given (as_of_comes z.settings z.site a n (Ok k) known) (refl, is, refl)

-- if there is none, it is refused
pub refuses_as_of : (z : SiteState) (a : Place) (n : ℕ) (why : Refusal) (given : NotedReply)
    → Err why ≡ balance_as_of z.settings z.site.ops a n → Says true given (Refused why)
    → AnswersAlone z z (outcome_of z.settings z.site (AsOf a n)) given
refuses_as_of z a n why given none is = answers_as z z _ _ given (as_of_comes z.settings z.site a n (Err why) none) (refl, is, refl)

-- ---- a held shadow is applied, or is let go

-- what a name comes to, by what is held under it
pub named_comes : (s : Settings) (t : ModelSite) (x : OpName) (o : Option Shadow) → find_in t.held x ≡ o → outcome_of s t (Apply x)
    ≡ unless (λ v. cond (not (is_eligible t.ops v)) (Refuses NotReady) (outcome_of_check v (refusal_of_sound s t.ops v))) o
    (Refuses NotHeld)
unfolding outcome_of
named_comes s t x o found = ap (λ q. unless (λ v. cond (not (is_eligible t.ops v)) (Refuses NotReady)
    (outcome_of_check v (refusal_of_sound s t.ops v))) q (Refuses NotHeld)) found

-- a name that no held shadow has is refused
pub not_held : (z : SiteState) (x : OpName) (a : NotedReply) → find_in z.site.held x ≡ None → Says true a (Refused NotHeld) →
    AnswersAlone z z (outcome_of z.settings z.site (Apply x)) a
not_held z x a none is = answers_as z z _ _ a (named_comes z.settings z.site x None none) (refl, is, refl)

-- a held shadow whose past isn't applied stays held
pub not_ready : (z : SiteState) (x : OpName) (v : Shadow) (a : NotedReply) → find_in z.site.held x ≡ Some v →
    is_eligible z.site.ops v ≡ false
    → Says true a (Refused NotReady) → AnswersAlone z z (outcome_of z.settings z.site (Apply x)) a
not_ready z x v a found waits is = answers_as z z _ _ a (named_comes z.settings z.site x (Some v) found
    ∙ ap (λ b. cond (not b) (Refuses NotReady) (outcome_of_check v (refusal_of_sound z.settings z.site.ops v))) waits) (refl, is, refl)

-- what is tied to the rest is so under equal settings
pub tied_as : (s now : Settings) (inbox : Holding) (token : SeenToken) → now ≡ s → IsTied s inbox token → IsTied now inbox token
tied_as s now inbox token same = let P : Settings → Type 0 = λ z. IsTied z inbox token in subst P (sym same)

-- a sound shadow is refused for the list alone
pub refusal-sound : (s : Settings) (us : List Shadow) (v : Shadow) → IsSound s v → refusal_of s us v ≡ refusal_of_sound s us v
refusal-sound s us v sound = ap (λ o. unless (λ why. Some (BadMessage why)) o (refusal_of_sound s us v)) sound

-- a check that refuses but not as not ready lets the operation go
pub dropped : (v : Shadow) (why : Refusal) → (why ≡ NotReady → ⊥) → outcome_of_check v (Some why) ≡ Drops v.name why
dropped v NotReady h = absurd (h refl)
dropped v why h = refl

-- a held shadow whose past is applied comes to what the ledger's check says
pub comes_to_check : (s : Settings) (t : ModelSite) (x : OpName) (v : Shadow) (o : Option Refusal) → find_in t.held x ≡ Some v →
    is_eligible t.ops v ≡ true → IsSound s v → refusal_of s t.ops v ≡ o → outcome_of s t (Apply x) ≡ outcome_of_check v o
unfolding outcome_of
comes_to_check s t x v o found eligible sound refusal =
    ap (λ q. unless (λ u. cond (not (is_eligible t.ops u)) (Refuses NotReady) (outcome_of_check u (refusal_of_sound s t.ops u))) q
    (Refuses NotHeld)) found
    ∙ ap (λ b. cond (not b) (Refuses NotReady) (outcome_of_check v (refusal_of_sound s t.ops v))) eligible
    ∙ ap (outcome_of_check v) (sym (refusal-sound s t.ops v sound) ∙ refusal)

-- a sound held shadow whose past is applied, if the ledger's check lets it: it is applied, and held no more
pub applies : (s : Settings) (me : ℕ) (ops held more less : List Shadow) (token : Token) (x : OpName) (v : Shadow) (a : NotedReply) →
    find_in held x ≡ Some v → is_eligible ops v ≡ true → IsSound s v → refusal_of s ops v ≡ None
    → more ≡ ops ++ v ∷ [] → less ≡ without v.name held → Says true a (Applied v.name)
    → AnswersAlone (state_as s me ops held token) (state_as s me more less token) (outcome_of s (site_as me ops held token) (Apply x)) a
applies s me ops held more less token x v a found eligible sound refusal grown taken is =
    answers_as _ _ _ _ a (comes_to_check s (site_as me ops held token) x v None found eligible sound refusal)
    (ap (λ us. state_as s me us less token) grown ∙ ap (λ vs. state_as s me (ops ++ v ∷ []) vs token) taken, is, refl)

-- the same if the check refuses it, but not as not ready: it is let go with that refusal
pub drops : (s : Settings) (me : ℕ) (ops held less : List Shadow) (token : Token) (x : OpName) (v : Shadow) (why : Refusal)
    (a : NotedReply) →
    find_in held x ≡ Some v → is_eligible ops v ≡ true → IsSound s v → refusal_of s ops v ≡ Some why → (why ≡ NotReady → ⊥)
    → less ≡ without v.name held → Says true a (Refused why)
    → AnswersAlone (state_as s me ops held token) (state_as s me ops less token) (outcome_of s (site_as me ops held token) (Apply x)) a
drops s me ops held less token x v why a found eligible sound refusal other taken is =
    answers_as _ _ _ _ a (comes_to_check s (site_as me ops held token) x v (Some why) found eligible sound refusal ∙ dropped v why other)
    (ap (λ vs. state_as s me ops vs token) taken, is, refl)

-- the same if the check refuses it as not ready: it stays held, and nothing changes
pub waits : (s : Settings) (me : ℕ) (ops held : List Shadow) (token : Token) (x : OpName) (v : Shadow) (a : NotedReply) →
    find_in held x ≡ Some v → is_eligible ops v ≡ true → IsSound s v → refusal_of s ops v ≡ Some NotReady → Says true a (Refused NotReady)
    → AnswersAlone (state_as s me ops held token) (state_as s me ops held token) (outcome_of s (site_as me ops held token) (Apply x)) a
waits s me ops held token x v a found eligible sound refusal is =
    answers_as _ _ _ _ a (comes_to_check s (site_as me ops held token) x v (Some NotReady) found eligible sound refusal)
    (refl, is, refl)

-- what a ledger's refusal is, but for running out of memory
pub refusal_is : (why : Refusal) (o : Option Refusal) → (o ≡ Some why) ⊎ ((why ≡ OutOfMemory) × (o ≡ None)) → (why ≡ OutOfMemory → ⊥) →
    o ≡ Some why
refusal_is why o (inl e) memory = e
refusal_is why o (inr h) memory = absurd (memory h.0)

-- what is refused as not ready isn't refused for running out of memory
pub not_memory : (why : Refusal) → why ≡ NotReady → why ≡ OutOfMemory → ⊥
not_memory why e h = let bad : NotReady ≡ OutOfMemory = sym e ∙ h in cc

-- what is held is sound
pub held_sound : (s : Settings) (held : List Shadow) (x : OpName) (v : Shadow) → ((u : Shadow) → Among u held → IsSound s u) →
    find_in held x ≡ Some v → IsSound s v
held_sound s held x v all found = all v (Lookups.found held x v found).0

-- what is found under a name has that name
named : (held : List Shadow) (x : OpName) (v : Shadow) → find_in held x ≡ Some v → x ≡ v.name
named held x v found = sym (Lookups.found held x v found).1

-- so it is found under its own
pub held_named : (held : List Shadow) (x : OpName) (v : Shadow) → find_in held x ≡ Some v → find_in held v.name ≡ Some v
held_named held x v found = subst (λ y. find_in held y ≡ Some v) (named held x v found) found

-- and at the same index
pub index_named : (held : List Shadow) (x : OpName) (v : Shadow) (n : ℕ) → find_in held x ≡ Some v → n ≡ index_in_row held x →
    n ≡ index_in_row held v.name
index_named held x v n found at = at ∙ ap (index_in_row held) (named held x v found)

-- without one of them, what is held is still tied to the rest
pub tied_without : (s : Settings) (now : Settings) (inbox later : Holding) (token : SeenToken) (x : OpName) → now ≡ s →
    later ≡ record inbox { held = without x inbox.held } → IsTied s inbox token → IsTied now later token
tied_without s now inbox later token x same taken tied =
    let P : Settings → Type 0 = λ z. IsTied z later token in
    subst P (sym same)
    (let Q : Holding → Type 0 = λ b. IsTied s b token in
    subst Q (sym taken) (record {
      me = tied.me;
      sites = tied.sites;
      limits = tied.limits;
      limit = tied.limit;
      sound = λ v h. tied.sound v (kept_among _ inbox.held v h);
    }))

-- so is an equal inbox
pub tied_at : (s : Settings) (inbox later : Holding) (token : SeenToken) → later ≡ inbox → IsTied s inbox token → IsTied s later token
tied_at s inbox later token same = let P : Holding → Type 0 = λ b. IsTied s b token in subst P (sym same)

-- ---- a shadow is received

-- what a received shadow comes to, by its fault, what is applied under its name, and whether it is this site's own
pub received_comes : (s : Settings) (t : ModelSite) (v : Shadow) (f : Option ℕ) (u : Option Shadow) (b : Bool) → fault_of s v ≡ f
    → find_in t.ops v.name ≡ u → (v.home == t.me) ≡ b → outcome_of s t (Receive (ShadowMessage v))
    ≡ unless (λ why. Refuses (BadMessage why)) f (unless_known v u (cond b (Refuses Conflict) (outcome_of_new s t v)))
unfolding outcome_of
received_comes s t v f u b fault found own =
    ap (λ o. unless (λ why. Refuses (BadMessage why)) o
    (unless_known v (find_in t.ops v.name) (cond (v.home == t.me) (Refuses Conflict) (outcome_of_new s t v)))) fault
    ∙ ap (λ o. unless (λ why. Refuses (BadMessage why)) f
    (unless_known v o (cond (v.home == t.me) (Refuses Conflict) (outcome_of_new s t v)))) found
    ∙ ap (λ c. unless (λ why. Refuses (BadMessage why)) f (unless_known v u (cond c (Refuses Conflict) (outcome_of_new s t v)))) own

-- a shadow at fault is refused
pub refuses_unsound : (z : SiteState) (v : Shadow) (why : ℕ) (a : NotedReply) → fault_of z.settings v ≡ Some why →
    Says true a (Refused (BadMessage why)) → AnswersAlone z z (outcome_of z.settings z.site (Receive (ShadowMessage v))) a
refuses_unsound z v why a fault is =
    answers_as z z _ _ a (received_comes z.settings z.site v (Some why) _ _ fault refl refl) (refl, is, refl)

-- a sound shadow whose name is applied here is answered by the one applied
pub knows : (z : SiteState) (v u : Shadow) (a : NotedReply) → fault_of z.settings v ≡ None → find_in z.site.ops v.name ≡ Some u →
    Says true a (cond (same_shadow u v) (Already v.name) (Refused Conflict))
    → AnswersAlone z z (outcome_of z.settings z.site (Receive (ShadowMessage v))) a
knows z v u a sound found is =
    answers_as z z _ _ a (received_comes z.settings z.site v None (Some u) _ sound found refl) (by (same_shadow u v) is)
  where
    by : (b : Bool) → Says true a (cond b (Already v.name) (Refused Conflict))
        → AnswersAlone z z (cond b (Answers (Already v.name)) (Refuses Conflict)) a
    by true is = (refl, is, refl)
    by false is = (refl, is, refl)

-- the same by what is known of the one applied: whether it is the shadow
pub knows_whether : (z : SiteState) (v : Shadow) (same : Bool) (a : NotedReply) → fault_of z.settings v ≡ None →
    Some same ≡ option_map (λ (u : Shadow). same_shadow u v) (find_in z.site.ops v.name) →
    Says true a (cond same (Already v.name) (Refused Conflict))
    → AnswersAlone z z (outcome_of z.settings z.site (Receive (ShadowMessage v))) a
knows_whether z v same a sound known says = at (find_in z.site.ops v.name) refl known
  where
    at : (o : Option Shadow) → find_in z.site.ops v.name ≡ o → Some same ≡ option_map (λ (u : Shadow). same_shadow u v) o →
        AnswersAlone z z (outcome_of z.settings z.site (Receive (ShadowMessage v))) a
    at None found test = cc
    at (Some u) found test =
        let is : same ≡ same_shadow u v = cc in
        knows z v u a sound found (subst (λ b. Says true a (cond b (Already v.name) (Refused Conflict))) is says)

-- a shadow of which nothing is known wasn't applied
pub knows_nothing : (f : Shadow → Bool) (o : Option Shadow) → None ≡ option_map f o → o ≡ None
knows_nothing f None e = refl
knows_nothing f (Some u) e = cc

-- a sound shadow of this site's own that isn't applied here is refused
pub refuses_own : (z : SiteState) (v : Shadow) (a : NotedReply) → fault_of z.settings v ≡ None → find_in z.site.ops v.name ≡ None →
    v.home ≡ z.site.me → Says true a (Refused Conflict) → AnswersAlone z z (outcome_of z.settings z.site (Receive (ShadowMessage v))) a
refuses_own z v a sound none own is =
    answers_as z z _ _ a (received_comes z.settings z.site v None None true sound none (eq-eqb v.home z.site.me own)) (refl, is, refl)

-- another sound shadow that isn't applied here is a new one
pub new_received : (s : Settings) (t : ModelSite) (v : Shadow) → fault_of s v ≡ None → find_in t.ops v.name ≡ None →
    (v.home ≡ t.me → ⊥) → outcome_of s t (Receive (ShadowMessage v)) ≡ outcome_of_new s t v
new_received s t v sound none other = received_comes s t v None None false sound none (ne_eqb v.home t.me other)

-- ---- a shadow is held

-- the clock counts the names of a valid list
counted : (s : Settings) (us : List Shadow) (c : Deps) (x : OpName) → IsClocked s us c → names us x ≡ names_of_clock c x
counted s us c x h = ValidClocks.valid_clock s us h.configured.few_sites h.valid x ∙ ap (λ d. names_of_clock d x) (sym h.clock)

-- what is ready at that clock is eligible
ready_means : (s : Settings) (us : List Shadow) (c : Deps) (v : Shadow) → IsClocked s us c → IsReady c v → is_eligible us v ≡ true
ready_means s us c v clocked ready = Eligible.eligible_from us v (λ x h. counted s us c x clocked ∙ ready x h)

-- and what isn't ready there isn't
waits_means : (s : Settings) (us : List Shadow) (c : Deps) (v : Shadow) → IsClocked s us c → ¬ IsReady c v → is_eligible us v ≡ false
waits_means s us c v clocked waits = by (is_eligible us v) refl
  where
    by : (b : Bool) → is_eligible us v ≡ b → is_eligible us v ≡ false
    by false e = e
    by true e = absurd (waits (λ x h. sym (counted s us c x clocked) ∙ Eligible.eligible_means us v e x h))

-- whether a new shadow must wait outside
abbrev pub is_too_many : Settings → ModelSite → Shadow → Bool
is_too_many s t v = nat_le s.limits.inbox (length t.held) && not (is_eligible t.ops v)

-- a shadow of a name that nothing held has
new_comes : (s : Settings) (t : ModelSite) (v : Shadow) (b : Bool) → find_in t.held v.name ≡ None → is_too_many s t v ≡ b →
    outcome_of_new s t v ≡ cond b (Refuses InboxFull) (Holds v)
new_comes s t v b none test =
    ap (λ o. unless_known v o (cond (is_too_many s t v) (Refuses InboxFull) (Holds v))) none
    ∙ ap (λ c. cond c (Refuses InboxFull) (Holds v)) test

-- a shadow of a name that a held one has
pub known_comes : (s : Settings) (t : ModelSite) (v u : Shadow) (b : Bool) → find_in t.held v.name ≡ Some u → same_shadow u v ≡ b →
    outcome_of_new s t v ≡ cond b (Answers (Already v.name)) (Refuses Conflict)
known_comes s t v u b found test =
    ap (λ o. unless_known v o (cond (is_too_many s t v) (Refuses InboxFull) (Holds v))) found
    ∙ ap (λ c. cond c (Answers (Already v.name)) (Refuses Conflict)) test

-- a shadow that isn't applied, if the inbox welcomes it at the clock of a valid list, comes to be held
pub welcome_comes : (s : Settings) (t : ModelSite) (inbox : Holding) (c : Deps) (v : Shadow) → IsClocked s t.ops c →
    inbox.limit ≡ s.limits.inbox → inbox.held ≡ t.held → IsWelcome inbox c v → outcome_of_new s t v ≡ Holds v
welcome_comes s t inbox c v clocked limit held welcome =
    new_comes s t v false (ap (λ us. find_in us v.name) (sym held) ∙ welcome.new) test
  where
    by : (b : Bool) → nat_le s.limits.inbox (length t.held) ≡ b → (b && not (is_eligible t.ops v)) ≡ false
    by false e = refl
    by true e =
        let low : s.limits.inbox ≤ length t.held = grind (arith, nat_tests) in
        let full : inbox.limit ≤ length inbox.held = subst (λ n. n ≤ length inbox.held) (sym limit)
        (subst (λ us. s.limits.inbox ≤ length us) (sym held) low) in
        ap not (ready_means s t.ops c v clocked (welcome.room full))

    test : is_too_many s t v ≡ false
    test = by (nat_le s.limits.inbox (length t.held)) refl

-- so it is held
pub holds : (s : Settings) (me : ℕ) (ops : List Shadow) (inbox later : Holding) (token : Token) (c : Deps) (v : Shadow) (a : NotedReply) →
    IsClocked s ops c → inbox.limit ≡ s.limits.inbox → IsWelcome inbox c v → later ≡ record inbox { held = with_held v inbox.held }
    → Says true a (Held v.name)
    → AnswersAlone (state_as s me ops inbox.held token) (state_as s me ops later.held token)
    (outcome_of_new s (site_as me ops inbox.held token) v) a
holds s me ops inbox later token c v a clocked limit welcome grown is =
    answers_as _ _ _ _ a (welcome_comes s (site_as me ops inbox.held token) inbox c v clocked limit refl welcome)
    (ap (λ (b : Holding). state_as s me ops b.held token) grown, is, refl)

-- if the inbox is full and the shadow isn't ready, it comes to be refused
pub too_many_comes : (s : Settings) (t : ModelSite) (inbox : Holding) (c : Deps) (v : Shadow) → IsClocked s t.ops c →
    inbox.limit ≡ s.limits.inbox → inbox.held ≡ t.held → IsTooMany inbox c v → outcome_of_new s t v ≡ Refuses InboxFull
too_many_comes s t inbox c v clocked limit held many =
    new_comes s t v true (ap (λ us. find_in us v.name) (sym held) ∙ many.new) test
  where
    full : s.limits.inbox ≤ length t.held
    full = subst (λ us. s.limits.inbox ≤ length us) held (subst (λ n. n ≤ length inbox.held) limit many.full)

    test : is_too_many s t v ≡ true
    test =
        let first : nat_le s.limits.inbox (length t.held) ≡ true = grind (arith, nat_tests, full) in
        ap (λ b. b && not (is_eligible t.ops v)) first ∙ ap not (waits_means s t.ops c v clocked many.waits)

-- so it is refused, and nothing changes
pub too_many : (s : Settings) (me : ℕ) (ops : List Shadow) (inbox : Holding) (token : Token) (c : Deps) (v : Shadow) (a : NotedReply) →
    IsClocked s ops c → inbox.limit ≡ s.limits.inbox → IsTooMany inbox c v → Says true a (Refused InboxFull)
    → AnswersAlone (state_as s me ops inbox.held token) (state_as s me ops inbox.held token)
    (outcome_of_new s (site_as me ops inbox.held token) v) a
too_many s me ops inbox token c v a clocked limit many is =
    answers_as _ _ _ _ a (too_many_comes s (site_as me ops inbox.held token) inbox c v clocked limit refl many)
    (refl, is, refl)

-- the same if it is held already: the answer is that, and nothing changes
pub already : (s : Settings) (me : ℕ) (ops held : List Shadow) (token : Token) (v : Shadow) (a : NotedReply) →
    find_in held v.name ≡ Some v →
    Says true a (Already v.name)
    → AnswersAlone (state_as s me ops held token) (state_as s me ops held token) (outcome_of_new s (site_as me ops held token) v) a
already s me ops held token v a found is =
    answers_as _ _ _ _ a (known_comes s (site_as me ops held token) v v true found (SameShadows.same_shadow-refl v))
    (refl, is, refl)

-- if another is held under its name, it comes to a conflict
pub conflict_comes : (s : Settings) (t : ModelSite) (inbox : Holding) (v : Shadow) → inbox.held ≡ t.held → IsInConflict inbox v →
    outcome_of_new s t v ≡ Refuses Conflict
conflict_comes s t inbox v held (u, found, other) =
    known_comes s t v u false (ap (λ us. find_in us v.name) (sym held) ∙ found) (by (same_shadow u v) refl)
  where
    by : (b : Bool) → same_shadow u v ≡ b → same_shadow u v ≡ false
    by false e = e
    by true e = absurd (other (SameShadows.same_shadow-true u v e))

-- so it is refused, and nothing changes
pub conflicts : (s : Settings) (me : ℕ) (ops : List Shadow) (inbox : Holding) (token : Token) (v : Shadow) (a : NotedReply) →
    IsInConflict inbox v → Says true a (Refused Conflict)
    → AnswersAlone (state_as s me ops inbox.held token) (state_as s me ops inbox.held token)
    (outcome_of_new s (site_as me ops inbox.held token) v) a
conflicts s me ops inbox token v a conflict is =
    answers_as _ _ _ _ a (conflict_comes s (site_as me ops inbox.held token) inbox v refl conflict) (refl, is, refl)

-- a shadow that the inbox refuses, but for running out of memory
pub refused_put : (s : Settings) (me : ℕ) (ops : List Shadow) (inbox later : Holding) (token : Token) (c : Deps) (v : Shadow)
    (why : Refusal) (a : NotedReply) → IsClocked s ops c → inbox.limit ≡ s.limits.inbox
    → (why ≡ Conflict) ⊎ (why ≡ InboxFull) ⊎ (why ≡ OutOfMemory) → (why ≡ Conflict → IsInConflict inbox v) →
    (why ≡ InboxFull → IsTooMany inbox c v) → (why ≡ OutOfMemory → ⊥) → later ≡ inbox → Says true a (Refused why)
    → AnswersAlone (state_as s me ops inbox.held token) (state_as s me ops later.held token)
    (outcome_of_new s (site_as me ops inbox.held token) v) a
refused_put s me ops inbox later token c v why a clocked limit refusals conflict full memory stays is =
    let P : Holding → Type 0 = λ b. AnswersAlone (state_as s me ops inbox.held token) (state_as s me ops b.held token)
    (outcome_of_new s (site_as me ops inbox.held token) v) a in
    subst P (sym stays) (by refusals)
  where
    by : (why ≡ Conflict) ⊎ (why ≡ InboxFull) ⊎ (why ≡ OutOfMemory) → AnswersAlone (state_as s me ops inbox.held token)
        (state_as s me ops inbox.held token) (outcome_of_new s (site_as me ops inbox.held token) v) a
    by (inl e) = conflicts s me ops inbox token v a (conflict e) (subst (λ w. Says true a (Refused w)) e is)
    by (inr (inl e)) = too_many s me ops inbox token c v a clocked limit (full e) (subst (λ w. Says true a (Refused w)) e is)
    by (inr (inr e)) = absurd (memory e)

-- with one more that is sound, what is held is still tied to the rest
pub tied_with : (s : Settings) (inbox later : Holding) (token : SeenToken) (v : Shadow) →
    later ≡ record inbox { held = with_held v inbox.held } → IsSound s v → IsTied s inbox token → IsTied s later token
tied_with s inbox later token v grown sound tied =
    let P : Holding → Type 0 = λ b. IsTied s b token in
    subst P (sym grown) (record {
      me = tied.me;
      sites = tied.sites;
      limits = tied.limits;
      limit = tied.limit;
      sound = λ u h. elim (held_cases v inbox.held u h) [ inl e ↦ subst (IsSound s) (sym e) sound | inr k ↦ tied.sound u k ];
    })
