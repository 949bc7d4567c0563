-- The requests of a batch, one by one.
use Rattle.std.proofs.Common.{◌≡◌, ◌∙◌, ℕ, ◌+◌, ◌<◌, ◌≤◌, ◌⊎◌, inl, inr, List, [], ◌∷◌, ◌++◌, drop, get_or, length, take, ap, arith, refl}
use Rattle.std.proofs.Common.{sym, Bool, true, false, cond, not, ◌&&◌, Result, Ok, Err, map}
use Rattle.std.specs.Prelude.{nat_le}
use Rattle.std.proofs.lemmas.List.{drop_more, length-take-le, take-append-drop, take_more}
use Rattle.rb_money.specs.Refusals.{and_then}
use Rattle.rb_money.specs.Settings.{Settings}
use Rattle.rb_money.specs.declared.refusal.Refusal.{Refusal}
use Rattle.rb_money.specs.declared.refusal.Refusal.TheVariants.{BadBatch, BatchRefused, OutOfMemory}
use Rattle.rb_shadow.specs.declared.shadow.Shadow.{Shadow}
use Rattle.rb_undo.specs.declared.parts.UndoParts.{UndoParts}
use Rattle.rb_ledger.specs.Book.{Book}
use Rattle.rb_ledger.specs.Records.{logged, records_of}
use Rattle.rb_ledger.proofs.Public.Records
use Rattle.rb_token.specs.Token.{Token}
use Rattle.rb_scratch.proofs.Public.Batches.{batch_more, batch_stopped, tried_length}
use Rattle.rb_scratch.specs.Batches.{batch_of, cause_of, made_in_batch, names_of_all}
use Rattle.rb_scratch.specs.Tried.{IsFault, IsTried}
use Rattle.rb_scratch.specs.declared.request.Request.{Request}
use Rattle.rb_scratch.specs.declared.run_fault.RunFault.{RunFault}
use Rattle.rb_scratch.specs.declared.run_fault.RunFault.TheVariants.{Refused as RefusedFault}
use Rattle.rb_scratch.specs.declared.request.TheConstants.{MOST_REQUESTS}
use Rattle.rb_site.specs.declared.noted_reply.NotedReply.{NotedReply}
use Rattle.rb_site.specs.declared.event.Event.TheVariants.{Batch}
use Rattle.rb_site.specs.declared.message.Message.{Message}
use Rattle.rb_site.specs.declared.message.Message.TheVariants.{Shadow as ShadowMessage}
use Rattle.rb_site.specs.declared.reply.Reply.TheVariants.{Names as NamesMade, Refused}
use Rattle.rb_site.specs.Events.{MakesAll, ModelSite, Outcome, Refuses, outcome_of}
use Rattle.rb_site.specs.States.{Follows, Says, SiteState}
use Rattle.rb_site.proofs.Handlers.{AnswersAlone, answers_as, follows_as, site_as, state_as}

-- what a request makes if the list is the same
same_made : (s now : Settings) (me here : ℕ) (us them : List Shadow) (known : Token) (r : Request) → now ≡ s → here ≡ me → them ≡ us →
    made_in_batch s me us known r ≡ made_in_batch now here them known r
same_made s now me here us them known r same at list =
    ap (λ z. made_in_batch z me us known r) (sym same)
    ∙ ap (λ i. made_in_batch now i us known r) (sym at)
    ∙ ap (λ ws. made_in_batch now here ws known r) (sym list)

-- one request more of a batch
pub run_more : (s now : Settings) (me here : ℕ) (us them vs : List Shadow) (known : Token) (rs : List Request) (k : ℕ) (d : Request)
    (v : Shadow) → k < length rs → now ≡ s → here ≡ me → them ≡ us ++ vs
    → batch_of s me us known 0 (take k rs) ≡ Ok vs → made_in_batch now here them known (get_or rs k d) ≡ Ok v →
    batch_of s me us known 0 (take (k + 1) rs) ≡ Ok (vs ++ v ∷ [])
run_more s now me here us them vs known rs k d v there same at list far made =
    ap (batch_of s me us known 0) (take_more rs k d there)
    ∙ batch_more s me us known 0 (take k rs) (get_or rs k d) vs v far (same_made s now me here (us
    ++ vs) them known (get_or rs k d) same at list ∙ made)

-- a request at fault stops the batch
pub run_stopped : (s now : Settings) (me here : ℕ) (us them vs : List Shadow) (known : Token) (rs : List Request) (k : ℕ) (d : Request)
    (fault : RunFault) → k < length rs → now ≡ s → here ≡ me → them ≡ us ++ vs
    → batch_of s me us known 0 (take k rs) ≡ Ok vs → made_in_batch now here them known (get_or rs k d) ≡ Err fault →
    batch_of s me us known 0 rs ≡ Err (BatchRefused k (cause_of fault))
run_stopped s now me here us them vs known rs k d fault there same at list far made =
    let low : k ≤ length rs = omega arith in
    let taken : length (take k rs) ≡ k = length-take-le k rs low in
    let index : 0 + length (take k rs) ≡ k = omega (arith, taken) in
    ap (batch_of s me us known 0) (sym (take-append-drop k rs) ∙ ap (λ xs. take k rs ++ xs) (drop_more rs k d there))
    ∙ batch_stopped s me us known 0 (take k rs) (get_or rs k d) (drop (k + 1) rs) vs fault far (same_made s now me here (us
    ++ vs) them known (get_or rs k d) same at list ∙ made)
    ∙ ap (λ n. Err (BatchRefused n (cause_of fault))) index

-- among the first requests, what isn't *out of memory* is the request's own fault
pub fault_made : (base vs : List Shadow) (book : Book) (spare : ℕ) (parts : List UndoParts) (me : ℕ) (known : Token) (rs : List Request)
    (r : Request) (fault : RunFault) → IsTried base vs book parts → length vs < length rs → length rs ≤ MOST_REQUESTS
    → IsFault book spare parts me known r fault → (fault ≡ RefusedFault OutOfMemory → ⊥) →
    made_in_batch book.settings me book.entries known r ≡ Err fault
fault_made base vs book spare parts me known rs r fault tried more few is other =
    by (is.few (omega (arith, tried_length base vs book parts tried, more, few)))
  where
    by : (made_in_batch book.settings me book.entries known r ≡ Err fault)
        ⊎ ((v : Shadow) × (made_in_batch book.settings me book.entries known r ≡ Ok v) × (fault ≡ RefusedFault OutOfMemory)
        × ((book.room ≡ 0) ⊎ (spare ≡ 0))) → made_in_batch book.settings me book.entries known r ≡ Err fault
    by (inl e) = e
    by (inr (v, made, e, room)) = absurd (other e)

-- ---- the records of a batch

-- a log that goes on with the records of the operations that were tried has the ledger's records
pub recorded_tried : {old start book : Book} {made later : List Shadow} {now : Settings} {parts ps qs : List UndoParts}
    → ps ≡ records_of old.settings old.entries → start ≡ old → book.settings ≡ start.settings
    → IsTried start.entries made book parts → qs ≡ ps ++ parts → now ≡ book.settings → later ≡ book.entries
    → qs ≡ records_of now later
recorded_tried {old} {start} {book} {made} {later} {now} {parts} kept same set tried noted fixed grown =
    let s : book.settings ≡ old.settings = set ∙ ap (λ (b : Book). b.settings) same in
    let e : start.entries ≡ old.entries = ap (λ (b : Book). b.entries) same in
    let its : parts ≡ logged old.settings old.entries made =
    tried.records ∙ ap (λ z. logged z start.entries made) s ∙ ap (λ us. logged old.settings us made) e in
    noted ∙ ap (λ rs. rs ++ parts) kept ∙ ap (λ rs. records_of old.settings old.entries ++ rs) its
    ∙ sym (Records.records_of-append old.settings old.entries made)
    ∙ ap (records_of old.settings) (sym (tried.entries ∙ ap (λ us. us ++ made) e))
    ∙ ap (λ z. records_of z book.entries) (sym (fixed ∙ s)) ∙ ap (records_of now) (sym grown)

-- ---- what a batch comes to

-- whether a batch has as many requests as it may
abbrev pub is_of_size : List Request → Bool
is_of_size rs = nat_le 1 (length rs) && nat_le (length rs) MOST_REQUESTS

-- what comes of a batch's operations
abbrev pub of_batch : Result (List Shadow) Refusal → Outcome
of_batch q = and_then Refuses q MakesAll

-- what a batch comes to, by whether it is of a fit size
pub batch_comes : (s : Settings) (t : ModelSite) (rs : List Request) (b : Bool) → is_of_size rs ≡ b →
    outcome_of s t (Batch rs) ≡ cond (not b) (Refuses BadBatch) (of_batch (batch_of s t.me t.ops t.token 0 rs))
unfolding outcome_of
batch_comes s t rs b e = ap (λ c. cond (not c) (Refuses BadBatch) (of_batch (batch_of s t.me t.ops t.token 0 rs))) e

-- a batch of no requests, or of too many: it is refused, and nothing changes
pub refuses_size : (z : SiteState) (rs : List Request) (a : NotedReply) → is_of_size rs ≡ false → Says true a (Refused BadBatch) →
    AnswersAlone z z (outcome_of z.settings z.site (Batch rs)) a
refuses_size z rs a size is = answers_as _ _ _ _ a (batch_comes z.settings z.site rs false size) (refl, is, refl)

-- a batch of a fit size whose requests can all be made: its operations are applied, named and sent
pub makes_batch : (keeps : Bool) (s : Settings) (me : ℕ) (ops held : List Shadow) (token : Token) (rs : List Request) (vs : List Shadow)
    (before after : List Message) (a : NotedReply) → is_of_size rs ≡ true → batch_of s me ops token 0 rs ≡ Ok vs
    → Says keeps a (NamesMade (names_of_all vs)) → after ≡ before ++ map ShadowMessage vs
    → Follows keeps (state_as s me ops held token) (state_as s me (ops
    ++ vs) held token) before after (outcome_of s (site_as me ops held token) (Batch rs)) a
makes_batch keeps s me ops held token rs vs before after a size made is posted =
    follows_as keeps _ _ before after _ _ a (batch_comes s (site_as me ops held token) rs true size ∙ ap of_batch made) (refl, is, posted)

-- a batch of a fit size whose requests can't all be made: it is refused, and nothing changes
pub refuses_batch : (s : Settings) (me : ℕ) (ops held : List Shadow) (token : Token) (rs : List Request) (why : Refusal) (a : NotedReply) →
    is_of_size rs ≡ true → batch_of s me ops token 0 rs ≡ Err why → Says true a (Refused why)
    → AnswersAlone (state_as s me ops held token) (state_as s me ops held token) (outcome_of s (site_as me ops held token) (Batch rs)) a
refuses_batch s me ops held token rs why a size refused is = answers_as _ _ _ _ a (batch_comes s (site_as me ops held token) rs true size
    ∙ ap of_batch refused) (refl, is, refl)

-- what refused a batch, but for running out of memory
pub refused_batch : (why : Refusal) (X : Type 0) → (why ≡ OutOfMemory) ⊎ X → (why ≡ OutOfMemory → ⊥) → X
refused_batch why X (inl e) memory = absurd (memory e)
refused_batch why X (inr h) memory = h
