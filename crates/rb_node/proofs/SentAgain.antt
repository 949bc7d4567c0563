-- The messages of entries are read out of the operations, by the index.
use Rattle.std.proofs.Common.{◌≡◌, ℕ, zero, suc, ◌+◌, ◌-◌, Bool, true, false, cond, not, List, [], ◌∷◌, ◌++◌, length, map}
use Rattle.std.proofs.Common.{take, drop, take_all, length-drop, refl, sym, ap, subst, ◌∙◌, arith, append_assoc, length-append, append-nil}
use Rattle.std.specs.Prelude.{nat_lt, filter}
use Rattle.std.specs.List.{flat_map, AllWithin}
use Rattle.std.proofs.lemmas.Bool.Decides.{nat_tests}
use Rattle.std.proofs.lemmas.List.{take_at, drop_at, map-append, length-map}
use Rattle.std.proofs.lemmas.List.Elements.{filter-append}
use Rattle.std.proofs.lemmas.Grind.{flat_map-append}
use Rattle.rb_money.specs.Settings.{Settings}
use Rattle.rb_shadow.specs.declared.shadow.Shadow.{Shadow}
use Rattle.rb_site.specs.declared.entry.Entry.{Entry}
use Rattle.rb_site.specs.declared.event.Event.{Event}
use Rattle.rb_site.specs.declared.message.Message.{Message}
use Rattle.rb_site.specs.declared.message.Message.TheVariants.{Shadow as ShadowMessage, Token as TokenOnItsWay}
use Rattle.rb_site.specs.Events.{ModelSite, Outcome, Makes, MakesAll, Applies}
use Rattle.rb_site.specs.Events.{after_event, after_events, changed, first_site, is_full, outcome_of, sent_at, sent_by}
use Rattle.rb_site.specs.Histories.{events_of}
use Rattle.rb_site.specs.Seen.{SeenSite, state_of}
use Rattle.rb_site.proofs.Public.Runs.{noted}
use Rattle.rb_node.specs.Answers.{sent_line}
use Rattle.rb_node.specs.Index.{index_from, index_of, lines_again, messages_of, noted_of}
use Rattle.rb_node.specs.Resends.{resent, senders, some_of}
use Rattle.rb_node.specs.declared.sent_entry.SentEntry.{SentEntry}

-- ---- what one event sent

-- the part between a prefix and a longer one
pub between : {A : Type 0} (us vs more : List A) → take (length (us ++ vs) - length us) (drop (length us) ((us ++ vs) ++ more)) ≡ vs
between us vs more =
    ap (λ l. take (length (us ++ vs) - length us) (drop (length us) l)) (append_assoc us vs more)
    ∙ ap (take (length (us ++ vs) - length us)) (drop_at us (vs ++ more) (length us) refl)
    ∙ take_at vs more (length (us ++ vs) - length us)
    (let q : length (us ++ vs) ≡ length us + length vs = length-append us vs in omega arith)

-- the messages of an entry, at a site that applied these operations
abbrev behind : List Shadow → SentEntry → List Message
behind us x = messages_of us x.sent

read_outcome : (t : ModelSite) (o : Outcome) (before : ℕ) (more : List Shadow) →
    map (behind ((changed t o).ops ++ more)) (noted_of before (length t.ops) (length (changed t o).ops) (sent_by o)) ≡ some_of (sent_by o)
read_outcome t (Makes v) before more = ap (λ vs. map ShadowMessage vs ∷ []) (between t.ops (v ∷ []) more)
read_outcome t (MakesAll (v ∷ vs)) before more = ap (λ l. map ShadowMessage l ∷ []) (between t.ops (v ∷ vs) more)
read_outcome t o before more = refl

-- an event's messages, whatever is applied after it
read_event : (s : Settings) (t : ModelSite) (e : Event) (before : ℕ) (more : List Shadow) →
    map (behind ((after_event s t e).ops ++ more)) (noted_of before (length t.ops) (length (after_event s t e).ops) (sent_at s t e))
    ≡ some_of (sent_at s t e)
read_event s t e before more = by (is_full s t)
  where
    by : (b : Bool) → map (behind ((cond b t (noted s t e)).ops ++ more))
        (noted_of before (length t.ops) (length (cond b t (noted s t e)).ops) (cond b [] (sent_by (outcome_of s t e))))
        ≡ some_of (cond b [] (sent_by (outcome_of s t e)))
    by true = refl
    by false = read_outcome t (outcome_of s t e) before more

-- ---- operations are only added

-- a list begins with another
abbrev pub Begins : List Shadow → List Shadow → Type 0
Begins us all = (more : List Shadow) × (all ≡ us ++ more)

grown_outcome : (t : ModelSite) (o : Outcome) → Begins t.ops (changed t o).ops
grown_outcome t (Makes v) = (v ∷ [], refl)
grown_outcome t (MakesAll vs) = (vs, refl)
grown_outcome t (Applies v) = (v ∷ [], refl)
grown_outcome t o = ([], sym (append-nil t.ops))

grown_event : (s : Settings) (t : ModelSite) (e : Event) → Begins t.ops (after_event s t e).ops
grown_event s t e = by (is_full s t)
  where
    by : (b : Bool) → Begins t.ops (cond b t (noted s t e)).ops
    by true = ([], sym (append-nil t.ops))
    by false = grown_outcome t (outcome_of s t e)

grown_run : (s : Settings) (t : ModelSite) (es : List Event) → Begins t.ops (after_events s t es).ops
grown_run s t [] = ([], sym (append-nil t.ops))
grown_run s t (e ∷ es) =
    let (a, is) = grown_event s t e in
    let (b, more) = grown_run s (after_event s t e) es in
    (a ++ b, more ∙ ap (λ l. l ++ b) is ∙ append_assoc t.ops a b)

-- ---- what the entries sent, but for some of the first

-- an entry is kept if it isn't among this number of the first
abbrev is_kept : ℕ → SentEntry → Bool
is_kept m x = not (nat_lt x.before m)

kept_one : (b : Bool) (x : SentEntry) → cond (not b) (x ∷ []) [] ≡ cond b [] (x ∷ [])
kept_one true x = refl
kept_one false x = refl

kept_none : (b : Bool) → [] ≡ cond {A = List SentEntry} b [] []
kept_none true = refl
kept_none false = refl

-- a note is kept or not, by its entry's number
kept_noted : (m before first end : ℕ) (ms : List Message) →
    filter (is_kept m) (noted_of before first end ms) ≡ cond (nat_lt before m) [] (noted_of before first end ms)
kept_noted m before first end [] = kept_none (nat_lt before m)
kept_noted m before first end (ShadowMessage v ∷ ms) = kept_one (nat_lt before m) _
kept_noted m before first end (TokenOnItsWay t ∷ ms) = kept_one (nat_lt before m) _

-- the operations after an event, and what was applied later
pub later_ops : (s : Settings) (t : ModelSite) (x : Entry) (xs : List Entry) (us : List Shadow) →
    Begins (after_events s t (events_of (x ∷ xs))).ops us → Begins (after_event s t x.event).ops us
later_ops s t x xs us all =
    let (a, is) = grown_run s (after_event s t x.event) (events_of xs) in
    (a ++ all.0, all.1 ∙ ap (λ l. l ++ all.0) is ∙ append_assoc (after_event s t x.event).ops a all.0)

-- an entry more in front
kept_more : (s : Settings) (t : ModelSite) (before m : ℕ) (us : List Shadow) (x : Entry) (xs : List Entry) →
    Begins (after_event s t x.event).ops us
    → map (behind us) (filter (is_kept m) (index_from s (after_event s t x.event) (suc before) (events_of xs)))
    ≡ senders s (after_event s t x.event) (m - suc before) xs
    → map (behind us) (filter (is_kept m) (index_from s t before (events_of (x ∷ xs)))) ≡ senders s t (m - before) (x ∷ xs)
kept_more s t before m us x xs more rest = by (nat_lt before m) refl
  where
    u : ModelSite
    u = after_event s t x.event

    one : List SentEntry
    one = noted_of before (length t.ops) (length u.ops) (sent_at s t x.event)

    later : List SentEntry
    later = index_from s u (suc before) (events_of xs)

    parts : (b : Bool) → nat_lt before m ≡ b → filter (is_kept m) (one ++ later) ≡ cond b [] one ++ filter (is_kept m) later
    parts b q = filter-append (is_kept m) one later
        ∙ ap (λ l. l ++ filter (is_kept m) later)
        (kept_noted m before (length t.ops) (length u.ops) (sent_at s t x.event) ∙ ap (λ b. cond b [] one) q)

    by : (b : Bool) → nat_lt before m ≡ b → map (behind us) (filter (is_kept m) (one ++ later)) ≡ senders s t (m - before) (x ∷ xs)
    by true q =
        let lower : m - before ≡ suc (m - suc before) = grind (arith, nat_tests) in
        ap (map (behind us)) (parts true q) ∙ rest ∙ ap (λ k. senders s t k (x ∷ xs)) (sym lower)
    by false q =
        let none : m - before ≡ 0 = grind (arith, nat_tests) in
        let still : m - suc before ≡ 0 = grind (arith, nat_tests) in
        ap (map (behind us)) (parts false q)
        ∙ map-append (behind us) one (filter (is_kept m) later)
        ∙ ap (λ l. l ++ map (behind us) (filter (is_kept m) later))
        (ap (λ l. map (behind l) one) more.1 ∙ read_event s t x.event before more.0)
        ∙ ap (λ l. some_of (sent_at s t x.event) ++ l) (rest ∙ ap (λ k. senders s u k xs) still)
        ∙ ap (λ k. senders s t k (x ∷ xs)) (sym none)

-- the notes that are kept are those of the messages
read_kept : (s : Settings) (t : ModelSite) (before m : ℕ) (us : List Shadow) (xs : List Entry) →
    Begins (after_events s t (events_of xs)).ops us →
    map (behind us) (filter (is_kept m) (index_from s t before (events_of xs))) ≡ senders s t (m - before) xs
read_kept s t before m us [] all = refl
read_kept s t before m us (x ∷ xs) all = kept_more s t before m us x xs (later_ops s t x xs us all)
    (read_kept s (after_event s t x.event) (suc before) m us xs all)

-- ---- lines

line_of_some : (s : Settings) (bank : List ℕ) (ms : List Message) → flat_map (sent_line s bank) (some_of ms) ≡ sent_line s bank ms
line_of_some s bank [] = refl
line_of_some s bank (m ∷ ms) = append-nil (sent_line s bank (m ∷ ms))

lines_of_senders : (s : Settings) (bank : List ℕ) (t : ModelSite) (k : ℕ) (xs : List Entry)
    → flat_map (sent_line s bank) (senders s t k xs) ≡ resent s bank t k xs
lines_of_senders s bank t k [] = refl
lines_of_senders s bank t zero (x ∷ xs) =
    rw (flat_map-append, line_of_some s bank (sent_at s t x.event), lines_of_senders s bank (after_event s t x.event) zero xs)
lines_of_senders s bank t (suc k) (x ∷ xs) = lines_of_senders s bank (after_event s t x.event) k xs

-- lines of the messages of entries
lines_behind : (s : Settings) (bank : List ℕ) (us : List Shadow) (xs : List SentEntry) → lines_again s bank us xs
    ≡ flat_map (sent_line s bank) (map (behind us) xs)
lines_behind s bank us [] = refl
lines_behind s bank us (x ∷ xs) = ap (λ l. sent_line s bank (behind us x) ++ l) (lines_behind s bank us xs)

-- ---- a part of the index

-- after a point below which a test holds is all that fails it
point_kept : {X : Type 0} (p : X → Bool) (xs : List X) (i : ℕ) → AllWithin (λ y. p y ≡ true) xs 0 i
    → AllWithin (λ y. p y ≡ false) xs i (length xs) → filter (λ y. not (p y)) xs ≡ drop i xs
point_kept p [] zero low high = refl
point_kept p [] (suc i) low high = refl
point_kept p (x ∷ xs) zero low high =
    let fails : p x ≡ false = high 0 x (omega arith) (omega arith) in
    ap (λ b. cond (not b) (x ∷ filter (λ y. not (p y)) xs) (filter (λ y. not (p y)) xs)) fails
    ∙ ap (λ l. x ∷ l) (point_kept p xs 0 (λ k d a b. absurd (omega arith)) (λ k d a b. high (suc k) d (omega arith) (omega arith)))
point_kept p (x ∷ xs) (suc i) low high =
    let holds : p x ≡ true = low 0 x (omega arith) (omega arith) in
    ap (λ b. cond (not b) (x ∷ filter (λ y. not (p y)) xs) (filter (λ y. not (p y)) xs)) holds
    ∙ point_kept p xs i (λ k d a b. low (suc k) d (omega arith) (omega arith)) (λ k d a b. high (suc k) d (omega arith) (omega arith))

-- the lines of the entries after the point, and how many they are
pub record AreSince (x : SeenSite) (m : ℕ) (since : List SentEntry) : Type 0 where
  pub lines : (bank : List ℕ) → lines_again x.settings bank (state_of x).ops since ≡ resent x.settings bank (first_site x.me) m x.entries
  pub count : length since ≡ length (senders x.settings (first_site x.me) m x.entries)

pub since : (x : SeenSite) (m i : ℕ) → AllWithin (λ y. nat_lt y.before m ≡ true) (index_of x) 0 i
    → AllWithin (λ y. nat_lt y.before m ≡ false) (index_of x) i (length (index_of x)) → AreSince x m (drop i (index_of x))
since x m i low high =
    let us = (state_of x).ops in
    let s = x.settings in
    let t = first_site x.me in
    let kept : filter (is_kept m) (index_of x) ≡ drop i (index_of x) = point_kept (λ y. nat_lt y.before m) (index_of x) i low high in
    let read : map (behind us) (drop i (index_of x)) ≡ senders s t m x.entries =
    ap (map (behind us)) (sym kept) ∙ read_kept s t 0 m us x.entries ([], sym (append-nil us))
    ∙ ap (λ k. senders s t k x.entries) (let q : m - 0 ≡ m = omega arith in q) in
    record {
      lines = λ bank. lines_behind s bank us (drop i (index_of x)) ∙ ap (flat_map (sent_line s bank)) read
          ∙ lines_of_senders s bank t m x.entries;
      count = sym (length-map (drop i (index_of x)) (behind us)) ∙ ap length read;
    }

-- the part of an index after the point
pub since_part : (x y : SeenSite) (m i : ℕ) (index : List SentEntry) → index ≡ index_of x → x ≡ y
    → AllWithin (λ z. nat_lt z.before m ≡ true) index 0 i → AllWithin (λ z. nat_lt z.before m ≡ false) index i (length index)
    → AreSince y m (take (length index - i) (drop i index))
since_part x y m i index is same low high =
    let here : AreSince x m (drop i (index_of x)) = since x m i
    (subst (λ l. AllWithin (λ z. nat_lt z.before m ≡ true) l 0 i) is low)
    (subst (λ l. AllWithin (λ z. nat_lt z.before m ≡ false) l i (length l)) is high) in
    let whole : take (length index - i) (drop i index) ≡ drop i (index_of x) =
    take_all (length index - i) (drop i index)
    (let q : length (drop i index) ≡ length index - i = length-drop i index in omega arith) ∙ ap (drop i) is in
    subst (λ l. AreSince y m l) (sym whole) (subst (λ z. AreSince z m (drop i (index_of x))) same here)
