-- A site answers each event in version 2 as before.
use Rattle.rb_runs.proofs.Words.{◌≡◌, ◌+◌, ℕ, List, [], ◌∷◌, ◌++◌, length, not, ◌&&◌, Ok, Err, refl, ap, ap₂, ◌∙◌, if◌then◌else◌, nat_le}
use Rattle.rb_runs.proofs.Words.{nat_lt, cents, Settings, in_version_2, start_of, Place, BadBatch, BatchRefused, HistoryFull}
use Rattle.rb_runs.proofs.Words.{NumbersExhausted, Declined, is_on, is_red, number_of, same_kind, limit_of, Shadow, Request, Deposit}
use Rattle.rb_runs.proofs.Words.{ModelSite, Makes, MakesAll, Outcome, Refuses, Shows, after_event, after_events, changed, is_full}
use Rattle.rb_runs.proofs.Words.{replies_to_events, reply_of, reply_to, Event, Submit, Batch, StatementIs, Refused, ReplaysAreEqual}
use Rattle.rb_money.specs.Refusals.{and_then}
use Rattle.rb_shadow.specs.Operations.{bal}
use Rattle.rb_token.specs.Token.{Token}
use Rattle.rb_scratch.specs.Batches.{batch_of, cause_of, made_in_batch}
use Rattle.rb_scratch.specs.Requests.{allowed, allowed_red, made_of, operation_of, plan_of}
use Rattle.rb_scratch.specs.declared.request.TheConstants.{MOST_REQUESTS}
use Rattle.rb_scratch.specs.declared.run_fault.RunFault.TheVariants.{Declined as DeclinedFault}
use Rattle.rb_shadow.specs.Sound.{fault_of}
use Rattle.rb_statements.specs.Statements.{row_after, rows_of, statement_of}
use Rattle.rb_site.specs.Events.{outcome_of}
use Rattle.rb_scratch.proofs.Public.Made.{stopped_by}
use Rattle.rb_site.proofs.Public.Outcomes.{with_history}

-- ---- requests

plan : (s : Settings) (us : List Shadow) (r : Request) → plan_of (in_version_2 s) us r ≡ plan_of s us r
unfolding bal plan_of
plan s us (Deposit a n) = refl
plan s us _ = refl

red : (s : Settings) (us : List Shadow) (token : Token) (v : Shadow) → allowed_red (in_version_2 s) us token v ≡ allowed_red s us token v
unfolding bal
red s us token v = refl

is_allowed : (s : Settings) (us : List Shadow) (token : Token) (v : Shadow) → allowed (in_version_2 s) us token v ≡ allowed s us token v
unfolding allowed
is_allowed s us token v =
    λ j. if nat_lt (limit_of s.limits v.name) (number_of v.name) then Err NumbersExhausted else if is_red v.name then red s us token v j
    else Ok v

made : (s : Settings) (me : ℕ) (us : List Shadow) (token : Token) (r : Request)
    → made_of (in_version_2 s) me us token r ≡ made_of s me us token r
unfolding made_of
made s me us token r = λ j. and_then Err (plan s us r j) (λ p. is_allowed s us token (operation_of me us p) j)

-- ---- batches

in_batch : (s : Settings) (me : ℕ) (us : List Shadow) (token : Token) (r : Request)
    → made_in_batch (in_version_2 s) me us token r ≡ made_in_batch s me us token r
unfolding made_in_batch
in_batch s me us token r =
    λ j. and_then stopped_by (plan s us r j)
    (λ p. if same_kind p.kind Declined then Err DeclinedFault else and_then stopped_by (is_allowed s us token (operation_of me us p) j) Ok)

batch : (s : Settings) (me : ℕ) (us : List Shadow) (token : Token) (index : ℕ) (rs : List Request)
    → batch_of (in_version_2 s) me us token index rs ≡ batch_of s me us token index rs
unfolding batch_of
batch s me us token index [] = refl
batch s me us token index (r ∷ rs) =
    λ j. and_then (λ fault. Err (BatchRefused index (cause_of fault))) (in_batch s me us token r j)
    (λ v. and_then Err (batch s me (us ++ v ∷ []) token (index + 1) rs j) (λ vs. Ok (v ∷ vs)))

-- ---- statements

rows : (s : Settings) (all : List Shadow) (a : Place) (before us : List Shadow)
    → rows_of (in_version_2 s) all a before us ≡ rows_of s all a before us
unfolding bal
rows s all a before [] = refl
rows s all a before (u ∷ us) =
    ap (λ later. (if is_on before u a then row_after s all a before u ∷ [] else []) ++ later) (rows s all a (before ++ u ∷ []) us)

statement : (s : Settings) (us : List Shadow) (a : Place) → statement_of (in_version_2 s) us a ≡ statement_of s us a
unfolding bal statement_of
statement s us a = λ j. record { start = start_of s a; rows = rows s us a [] us j; balance = cents (bal s us a) }

-- ---- events

outcome : (s : Settings) (t : ModelSite) (e : Event) → outcome_of (in_version_2 s) t e ≡ outcome_of s t e
unfolding bal fault_of outcome_of
outcome s t (Submit r) = ap (λ q. and_then Refuses q Makes) (made s t.me t.ops t.token r)
outcome s t (Batch rs) =
    ap (λ q. if not (nat_le 1 (length rs) && nat_le (length rs) MOST_REQUESTS) then Refuses BadBatch else and_then Refuses q MakesAll)
    (batch s t.me t.ops t.token 0 rs)
outcome s t _ = refl

-- the reply to what it comes to
reply_in_2 : (s : Settings) (us : List Shadow) (o : Outcome) → reply_of (in_version_2 s) us o ≡ reply_of s us o
reply_in_2 s us (Shows a) = ap StatementIs (statement s us a)
reply_in_2 s us _ = refl

reply : (s : Settings) (t : ModelSite) (e : Event) → reply_to (in_version_2 s) t e ≡ reply_to s t e
reply s t e =
    ap (λ o. if is_full s t then Refused HistoryFull else reply_of (in_version_2 s) t.ops o) (outcome s t e)
    ∙ ap (λ r. if is_full s t then Refused HistoryFull else r) (reply_in_2 s t.ops (outcome_of s t e))

after : (s : Settings) (t : ModelSite) (e : Event) → after_event (in_version_2 s) t e ≡ after_event s t e
after s t e = ap (λ o. if is_full s t then t else with_history (changed t o) (t.history ++ e ∷ [])) (outcome s t e)

-- a replay in version 2 gives the same site, and the same replies
pub replays : (s : Settings) (t : ModelSite) (es : List Event) → ReplaysAreEqual s t es
replays s t [] = record { site = refl; replies = refl }
replays s t (e ∷ es) =
    let later = replays s (after_event s t e) es in
    record {
      site = ap (λ u. after_events (in_version_2 s) u es) (after s t e) ∙ later.site;
      replies = ap₂ (λ r u. r ∷ replies_to_events (in_version_2 s) u es) (reply s t e) (after s t e)
          ∙ ap (λ rs. reply_to s t e ∷ rs) later.replies;
    }
