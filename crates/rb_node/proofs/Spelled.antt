-- An entry, replayed from its line.
use Rattle.std.proofs.Common.{◌≡◌, ◌≢◌, ◌++◌, ℕ, Bool, true, false, cond, not, List, [], ◌∷◌, inl, inr, refl, sym, ap, subst, ◌∙◌}
use Rattle.std.specs.Prelude.{is_some, Option, Some, None, MatchOption, Result, Ok, Err, OnOk}
use Rattle.std.specs.Cmp.Lexicographic.{pointwise}
use lib.Dec.{eqb}
use lib.Pointwise.{bytes_decides}
use Rattle.serde_json.specs.Written.{compact_text}
use Rattle.rb_money.specs.Settings.{Settings}
use Rattle.rb_site.specs.declared.entry.Entry.{Entry}
use Rattle.rb_site.specs.declared.reply.Reply.{Reply}
use Rattle.rb_site.specs.Events.{is_full, reply_to, sent_at}
use Rattle.rb_site.specs.Seen.{entry}
use Rattle.rb_history.specs.Entries.{asked_entry_json, asked_entry_on}
use Rattle.rb_history.specs.Ids.{AskedEntry, IsAsked, may_be_asked}
use Rattle.rb_node.specs.declared.known_request.KnownRequest.{KnownRequest}
use Rattle.rb_node.specs.Answers.{SeenNode}
use Rattle.rb_node.specs.Asked.{SeenAsked, asked_state, known_of, with_id, with_more}
use Rattle.rb_node.specs.Kept.{IsKeptAs}
use Rattle.rb_node.specs.Replays.{IsReadBack, IsReplayedAs}

-- ---- lines

-- a negated test that is false passed
passed : (b : Bool) → false ≡ not b → b ≡ true
passed true h = cc
passed false h = absurd (cc)

-- texts that a comparison found to be equal are
pub same_bytes : (xs ys : List ℕ) → false ≡ not (pointwise eqb xs ys) → xs ≡ ys
same_bytes xs ys h = (bytes_decides xs ys).0 (passed (pointwise eqb xs ys) h)

-- texts that it found to differ do
pub other_bytes : (xs ys : List ℕ) → true ≡ not (pointwise eqb xs ys) → xs ≢ ys
other_bytes xs ys h = λ e. let same : not (pointwise eqb xs ys) ≡ false = ap not ((bytes_decides xs ys).1 e) in cc

-- an entry's line, written into what was emptied
pub written_for : (inside old : SeenAsked) (config : Settings) (me : ℕ) (x : AskedEntry) (empty out : List ℕ) → inside ≡ old
    → inside.settings ≡ config → me ≡ inside.me → empty ≡ [] → out ≡ empty ++ compact_text (asked_entry_json config me x)
    → out ≡ compact_text (asked_entry_json old.settings old.me x)
written_for inside old config me x empty out seen settings number none added =
    added ∙ ap (λ l. l ++ compact_text (asked_entry_json config me x)) none
    ∙ ap (λ n. compact_text (asked_entry_json config n x)) (number ∙ ap (λ (y : SeenAsked). y.me) seen)
    ∙ ap (λ s. compact_text (asked_entry_json s old.me x)) (sym settings ∙ ap (λ (y : SeenAsked). y.settings) seen)

-- a line that is the entry's is read as the entry
pub back : (s : Settings) (me : ℕ) (x : AskedEntry) (line : List ℕ) → asked_entry_on s line ≡ Some (me, x)
    → line ≡ compact_text (asked_entry_json s me x) → IsReadBack s me x
back s me x line on spelled = ap (asked_entry_on s) (sym spelled) ∙ on

-- two values that are there are equal where their options are
pub some_is : {A : Type 0} (x y : A) → Some x ≡ Some y → x ≡ y
some_is x y e = cc

-- what is there only if a test passes is there
pub where_kept : {A : Type 0} (b : Bool) (o : Option A) (x : A) → cond b o None ≡ Some x → o ≡ Some x
where_kept true o x is = is
where_kept false o x is = absurd (cc)

-- a line is read as one entry
pub one_entry : (o : Option (ℕ × AskedEntry)) (me : ℕ) (x y : AskedEntry) → o ≡ Some (me, x) → o ≡ Some (me, y) → x ≡ y
one_entry o me x y e f = ap (λ (q : ℕ × AskedEntry). q.1) (some_is _ _ (sym e ∙ f))

-- what is read from a line that isn't the line of what it is read as, unless its id is known, isn't that of another
-- entry
pub no_other : (x : SeenAsked) (e : AskedEntry) (line : List ℕ) → asked_entry_on x.settings line ≡ Some (x.me, e)
    → (known_of x e.id ≡ None → line ≢ compact_text (asked_entry_json x.settings x.me e)) → (y : AskedEntry)
    → asked_entry_on x.settings line ≡ Some (x.me, y) → known_of x y.id ≡ None
    → line ≢ compact_text (asked_entry_json x.settings x.me y)
no_other x e line on other y read =
    let P : AskedEntry → Type 0 = λ z. known_of x z.id ≡ None → line ≢ compact_text (asked_entry_json x.settings x.me z) in
    subst P (one_entry (asked_entry_on x.settings line) x.me e y on read) other

-- if the id of what is read from a line is known, so is that of each entry which is read from it
pub each_known : (x : SeenAsked) (e : AskedEntry) (line : List ℕ) → asked_entry_on x.settings line ≡ Some (x.me, e)
    → known_of x e.id ≢ None → (y : AskedEntry) → asked_entry_on x.settings line ≡ Some (x.me, y) → known_of x y.id ≢ None
each_known x e line on known y read =
    let P : AskedEntry → Type 0 = λ z. known_of x z.id ≢ None in
    subst P (one_entry (asked_entry_on x.settings line) x.me e y on read) known

-- ---- ids

-- an id that is known isn't unknown
pub known_is : (x : SeenAsked) (id : List ℕ) (kept : KnownRequest) → IsKeptAs x id kept → known_of x id ≢ None
known_is x id kept is = λ none. absurd (cc)

-- what is known of a value that may be there, if it isn't
pub where_none : {A P : Type 0} (o : Option A) (Q : A → Type 0) → false ≡ is_some o → MatchOption o P Q → P
where_none None Q h known = known
where_none (Some x) Q h known = absurd (cc)

-- and if it is
pub where_some : {A : Type 0} (P : Type 0) (o : Option A) (Q : A → Type 0) → true ≡ is_some o → MatchOption o P Q → (x : A) × Q x
where_some P None Q h known = absurd (cc)
where_some P (Some x) Q h known = (x, known)

-- an entry with an id
abbrev tagged_by : List ℕ → Entry → AskedEntry
tagged_by id x = record { id = id; entry = x }

-- such an entry is recorded with its id
tagged : (x : AskedEntry) → IsAsked x → with_id x.id x.entry ≡ x
tagged x (inl none) = by (may_be_asked x.entry)
  where
    by : (b : Bool) → tagged_by (cond b x.id []) x.entry ≡ x
    by true = refl
    by false = ap (λ i. tagged_by i x.entry) (sym none)
tagged x (inr is) = ap (λ b. tagged_by (cond b x.id []) x.entry) is.1

-- ---- replays

-- an entry was replayed: it was recorded with its id, and the site gave its reply
pub replayed_entry : (old : SeenAsked) (new : SeenNode) (x : AskedEntry) (reply : Reply) → IsAsked x
    → is_full old.settings (asked_state old) ≡ false → known_of old x.id ≡ None
    → new.site ≡ with_more old (with_id x.id (entry x.entry.event reply) ∷ [])
    → reply ≡ reply_to old.settings (asked_state old) x.entry.event → reply ≡ x.entry.reply
    → new.sent ≡ sent_at old.settings (asked_state old) x.entry.event → IsReplayedAs old new x
replayed_entry old new x reply asked free unknown is given same sent = record {
  free = free;
  unknown = unknown;
  reply = sym same ∙ given;
  site = is ∙ ap (λ r. with_more old (with_id x.id (entry x.entry.event r) ∷ [])) same ∙ ap (λ y. with_more old (y ∷ [])) (tagged x asked);
  sent = sent;
}

-- what is known beside a replay
pub beside : {A E P : Type 0} (r : Result A E) (inside old : SeenAsked) (new : SeenNode) (x : AskedEntry) → inside ≡ old → P
    → OnOk r (IsReplayedAs inside new x) → OnOk r (P × IsReplayedAs old new x)
beside (Ok y) inside old new x seen p h = (p, subst (λ s. IsReplayedAs s new x) seen h)
beside (Err y) inside old new x seen p h = tt

-- what the line shows beside a replay
pub read_from : {A E : Type 0} (r : Result A E) (old : SeenAsked) (new : SeenNode) (x : AskedEntry) (line : List ℕ)
    → asked_entry_on old.settings line ≡ Some (old.me, x)
    → OnOk r ((line ≡ compact_text (asked_entry_json old.settings old.me x)) × IsReplayedAs old new x)
    → OnOk r ((y : AskedEntry) × (line ≡ compact_text (asked_entry_json old.settings old.me y)) × IsReadBack old.settings old.me y
    × IsReplayedAs old new y)
read_from (Ok v) old new x line on h = (x, h.0, back old.settings old.me x line on h.0, h.1)
read_from (Err v) old new x line on h = tt

-- the entry that was replayed, if it is the one on a line
pub read_on : {A E : Type 0} (r : Result A E) (old : SeenAsked) (new : SeenNode) (x : AskedEntry) (line : List ℕ)
    → asked_entry_on old.settings line ≡ Some (old.me, x) → OnOk r (IsReplayedAs old new x)
    → OnOk r ((y : AskedEntry) × (asked_entry_on old.settings line ≡ Some (old.me, y)) × IsReplayedAs old new y)
read_on (Ok v) old new x line on h = (x, on, h)
read_on (Err v) old new x line on h = tt
