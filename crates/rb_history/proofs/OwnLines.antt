-- The line of a command, an event or an entry is read as it.
use Rattle.rb_history.proofs.Words.{escape_byte, BeginsWithEvent, BeginsWithMember, BeginsWithOwn, EndsWithId, behind_quote, command_at}
use Rattle.rb_history.proofs.Words.{command_for, command_of, asked_entry_of_object, asked_event_at, asked_event_of_line, event_json}
use Rattle.rb_history.proofs.Words.{EntriesAreRead, EventsAreRead, IsEvent, AskedEvent, id_at, is_id, may_have_id, event_at, recorded_of}
use Rattle.rb_history.proofs.Words.{EndsLine, behind_site, number_below, number_json, one_json, size_of, below, is_below, IsConfigured}
use Rattle.rb_history.proofs.Words.{Settings, Deposit, IsOwn, Event, Receive, Submit, WorldEvent, At, Deliver, get_member-put}
use Rattle.rb_history.proofs.Words.{get_member-put_other, Data, Members, member, no_members, object, put, string, get, of_json, read}
use Rattle.rb_history.proofs.Words.{compact_text, outline, Equal, Greater, Less, List, None, Option, Ordering, Some, [], ap, append-nil}
use Rattle.rb_history.proofs.Words.{append_assoc, arith, bytes_eq, codes, decimal, false, inl, inr, is_eq, nat_cmp, refl, subst, sym, true}
use Rattle.rb_history.proofs.Words.{true≢false, ℕ, ◌++◌, ◌<◌, ◌==◌, ◌^◌, ◌∙◌, ◌≡◌, eqb-true, is_eq-slice_cmp, bytes_eq-Decides, slice_cmp}
use Rattle.rb_history.proofs.Words.{match_ordering, if◌then◌else◌, option_and_then, option_map}
use Rattle.rb_history.proofs.KnownPlaces.{fails}
use Rattle.rb_history.proofs.EntryText.{IsText, event_text, number_text, string_text, entry_text}
use Rattle.rb_history.proofs.Reading.{line_read}
use Rattle.rb_history.proofs.EntryBack.{event_back, entry_back}
use Rattle.rb_history.proofs.FitsLaws.{tested}
use Rattle.rb_history.proofs.Public.IdText.{id_quoted, id_read}

-- ---- two members, in the order of their keys

abbrev two : List ℕ → Data → List ℕ → Data → Members
two k a l b = member k a (member l b no_members)

-- what holds in both orders of two members whose keys differ holds if one is put to the other
in_order : (P : Members → Type 0) (k l : List ℕ) (a b : Data) → (k ≡ l → ⊥) → P (two k a l b) → P (two l b k a)
    → P (put k a (member l b no_members))
in_order P k l a b apart first last =
    by (slice_cmp nat_cmp k l) (is_eq-slice_cmp k l ∙ fails (bytes_eq k l) (k ≡ l) (bytes_eq-Decides k l) apart)
  where
    by : (o : Ordering) → is_eq o ≡ false → P (match_ordering o (two k a l b) (member l a no_members) (two l b k a))
    by Less e = first
    by Equal e = absurd (true≢false e)
    by Greater e = last

-- an object of these two members is read as this in both orders, if the second's value is found
record Reads {A : Type 0} (f : Data → Option A) (k l : List ℕ) (a b : Data) (x : A) : Type 0 where
  apart : k ≡ l → ⊥
  first : get l (object (two k a l b)) ≡ Some b → f (object (two k a l b)) ≡ Some x
  last : f (object (two l b k a)) ≡ Some x
  here : IsText a 4
  there : IsText b 4

-- so is the text of the object with the second member after the first
behind_read : {A : Type 0} (f : Data → Option A) (k l : List ℕ) (a b : Data) (x : A) (line : List ℕ) → Reads f k l a b x
    → line ≡ compact_text (object (two k a l b)) → option_and_then f (read line) ≡ Some x
behind_read f k l a b x line r text =
    line_read f (object (two k a l b)) (object (put l b (member k a no_members))) x line text (r.here.numbers, (r.there.numbers, tt))
    (omega (arith, r.here.shallow, r.there.shallow)) (rw (r.here.same, r.there.same) refl)
    (in_order (λ ms. get l (object ms) ≡ Some b → f (object ms) ≡ Some x) l k b a (λ e. r.apart (sym e)) (λ e. r.last) r.first
    (get_member-put l b (member k a no_members)))

-- and before it
before_read : {A : Type 0} (f : Data → Option A) (k l : List ℕ) (a b : Data) (x : A) (line : List ℕ) → Reads f k l a b x
    → line ≡ compact_text (object (two l b k a)) → option_and_then f (read line) ≡ Some x
before_read f k l a b x line r text =
    line_read f (object (two l b k a)) (object (put k a (member l b no_members))) x line text (r.there.numbers, (r.here.numbers, tt))
    (omega (arith, r.here.shallow, r.there.shallow)) (rw (r.there.same, r.here.same) refl)
    (in_order (λ ms. get l (object ms) ≡ Some b → f (object ms) ≡ Some x) k l a b r.apart r.first (λ e. r.last)
    (get_member-put_other l k a (member l b no_members) (λ e. r.apart (sym e)) ∙ get_member-put l b no_members))

-- a key that is read as something is another than one that isn't
other_key : {A : Type 0} (f : Data → Option A) (k key : List ℕ) (value : Data) (x : A) → f (one_json k value) ≡ None
    → f (one_json key value) ≡ Some x → key ≡ k → ⊥
other_key f k key value x none back same =
    let never : None ≡ Some x = sym none ∙ ap (λ l. f (one_json l value)) (sym same) ∙ back in
    cc

-- ---- a command in the usual spelling is the compact text of its object, and so is read as the command

-- the text begins with the member of this command, whatever its object's site is, and then the rest follows
record Spells (s : Settings) (command : ℕ → WorldEvent) (text rest : List ℕ) : Type 0 where
  key : List ℕ
  value : Data
  written : text ≡ behind_quote key ++ (codes ":" ++ (compact_text value ++ rest))
  read : IsText value 4
  other : key ≡ codes "site" → ⊥
  alone : (site : ℕ) → command_for s (one_json key value) site ≡ Some (command site)

-- it is read with its site
sited : (s : Settings) (command : ℕ → WorldEvent) {text rest : List ℕ} (t : Spells s command text rest) (site : ℕ) → site < 2 ^ 8
    → Reads (command_of s) t.key (codes "site") t.value (number_json site) (command site)
sited s command t site h =
    let asked = command_for s (one_json t.key t.value) in
    let known : option_and_then asked (number_below (2 ^ 8) (number_json site)) ≡ Some (command site) =
    ap (λ b. option_and_then asked (if b then Some site else None)) (below site (2 ^ 8) h) ∙ t.alone site in record {
      apart = t.other;
      first = λ e. ap (λ o. option_and_then asked (option_and_then (number_below (2 ^ 8)) o)) e ∙ known;
      last = known;
      here = t.read;
      there = number_text site (omega arith);
    }

-- if the site is first or last
any_line : (s : Settings) (first : Option ℕ) (command : ℕ → WorldEvent) (site : ℕ) (text rest : List ℕ) → Spells s command text rest
    → site < 2 ^ 8 → EndsLine first site rest → command_at s (codes "{\"" ++ behind_site first text) ≡ Some (command site)
unfolding escape_byte
any_line s None command site text rest t h e =
    behind_read (command_of s) t.key (codes "site") t.value (number_json site) (command site) _ (sited s command t site h)
    (ap (λ l. codes "{\"" ++ l) (t.written ∙ ap (λ l. behind_quote t.key ++ (codes ":" ++ (compact_text t.value ++ l))) e))
any_line s (Some first) command site text rest t h e =
    rw (e.0) (before_read (command_of s) t.key (codes "site") t.value (number_json first) (command first) _
    (sited s command t first (omega (arith, h, e.0))) (ap (λ l. codes "{\"site\":" ++ (decimal first ++ (codes ",\"" ++ l)))
    (t.written ∙ ap (λ l. behind_quote t.key ++ (codes ":" ++ (compact_text t.value ++ l))) e.1)))

-- ---- the one member of an object, in its object, and beside a command's site

-- a member between the brackets of its object is the object
pub in_object : (d : Data) (text inside behind rest : List ℕ) → text ≡ codes "{\"" ++ inside → BeginsWithMember d inside behind
    → behind ≡ codes "}" ++ rest → text ≡ compact_text d ++ rest
in_object d text inside behind rest e m f = rw (e, m.written, f, m.object) (simp append_assoc)

-- if an object of one member is read from its own text, so is the member's value
value_read : (key : List ℕ) (value : Data) (o : Option Data)
    → option_map object (option_and_then (λ d. Some (put key d no_members)) o) ≡ Some (one_json key value) → o ≡ Some value
value_read key value None e = absurd (cc)
value_read key value (Some d) e = let same : d ≡ value = cc in ap Some same

-- so its value is read from its own text, one less deep
pub member_text : (key : List ℕ) (value : Data) → IsText (one_json key value) 5 → IsText value 4
member_text key value t = record {
  numbers = t.numbers.0;
  shallow = omega (arith, t.shallow);
  same = value_read key value (of_json (outline value)) t.same;
}

-- an event of a site's own that is read from its object is asked of a site by the same object
own_alone : (s : Settings) (e : Event) (site : ℕ) → IsOwn e → event_at s (event_json s e) ≡ Some e
    → command_for s (event_json s e) site ≡ Some (At site e)
own_alone s (Submit (Deposit a amount)) site own back = ap (option_map (At site)) back
own_alone s (Submit _) site own back = ap (option_map (At site)) back
own_alone s (Receive m) site own back = absurd own
own_alone s _ site own back = ap (option_map (At site)) back

-- the line of an event of a site's own and its site is the command
pub own_line : (s : Settings) → IsConfigured s → (first : Option ℕ) (site : ℕ) (e : Event) (text rest : List ℕ)
    → BeginsWithOwn s e text rest → site < 2 ^ 8 → EndsLine first site rest
    → command_at s (codes "{\"" ++ behind_site first text) ≡ Some (At site e)
own_line s c first site e text rest (own, fits, m) h ended =
    let back = event_back s c e fits in
    let found : Spells s (λ site. At site e) text rest = record {
      key = m.key;
      value = m.value;
      written = m.written;
      read = member_text m.key m.value (subst (λ d. IsText d 5) m.object (event_text s e fits));
      other = other_key (event_at s) (codes "site") m.key m.value e refl (subst (λ d. event_at s d ≡ Some e) m.object back);
      alone = λ at. subst (λ d. command_for s d at ≡ Some (At at e)) m.object (own_alone s e at own back);
    } in
    any_line s first (λ site. At site e) site text rest found h ended

-- the line of a delivery and its site is the command
pub delivery_line : (s : Settings) (first : Option ℕ) (site n : ℕ) (text rest : List ℕ) → n < 2 ^ 32
    → text ≡ codes "deliver\":" ++ (decimal n ++ rest) → site < 2 ^ 8 → EndsLine first site rest
    → command_at s (codes "{\"" ++ behind_site first text) ≡ Some (Deliver site n)
unfolding escape_byte
delivery_line s first site n text rest fits written h ended =
    let found : Spells s (λ site. Deliver site n) text rest = record {
      key = codes "deliver";
      value = number_json n;
      written = written;
      read = number_text n (omega arith);
      other = λ same. absurd (cc);
      alone = λ at. rw (is_below n (2 ^ 32) fits) refl;
    } in
    any_line s first (λ site. Deliver site n) site text rest found h ended

-- ---- the line of an event by itself is read as the event

-- the event without an id
abbrev pub without_id : Event → AskedEvent
without_id e = record { id = []; event = e }

-- an object that is an event has one member, so it is the event without an id
alone_back : (s : Settings) (d : Data) (e : Event) → event_at s d ≡ Some e → asked_event_at s d ≡ Some (without_id e)
alone_back s d e is =
    let one = eqb-true (size_of d) 1 (tested (size_of d == 1) (recorded_of s d) e is) in
    let alone : asked_event_at s d ≡ option_map without_id (event_at s d) = rw one refl in
    alone ∙ ap (option_map without_id) is

-- the line of each event of which a line has all is read as the event
pub event_line : EventsAreRead
event_line s configured e fits =
    let d = event_json s e in
    let t = event_text s e fits in
    line_read (asked_event_at s) d d (without_id e) (compact_text d) refl t.numbers (omega (arith, t.shallow)) t.same
    (alone_back s d e (event_back s configured e fits))

-- ---- the line of an entry is read as the entry with its id

-- the line of an entry is read as the entry with its id, or none
pub entry_line : EntriesAreRead
entry_line s configured site x within event reply asked =
    let few = configured.few_sites in
    ap (option_and_then (asked_entry_of_object s)) (entry_text s site x (omega arith) event reply)
    ∙ entry_back s configured site x within event reply asked

-- ---- the line of an event with an id, as its last member or its first, is read as the event with the id

-- the event with its id
abbrev with_id : List ℕ → Event → AskedEvent
with_id t e = record { id = t; event = e }

-- what an id beside this member is read as
abbrev beside : Settings → List ℕ → Data → Option (List ℕ) → Option AskedEvent
beside s key value o = option_and_then (λ t. option_and_then (λ e. if may_have_id e then Some (with_id t e) else None)
    (recorded_of s (one_json key value))) o

-- an event that may have an id is read beside one
identified : (s : Settings) → IsConfigured s → (t : List ℕ) (e : Event) {text rest : List ℕ} → IsEvent s e
    → (m : BeginsWithMember (event_json s e) text rest) → is_id t ≡ true → may_have_id e ≡ true
    → Reads (asked_event_at s) m.key (codes "id") m.value (string t) (with_id t e)
identified s c t e fits m is may =
    let back = subst (λ d. event_at s d ≡ Some e) m.object (event_back s c e fits) in
    let known : beside s m.key m.value (id_at (string t)) ≡ Some (with_id t e) = rw (id_read t is, back, may) refl in record {
      apart = other_key (event_at s) (codes "id") m.key m.value e refl back;
      first = λ found. ap (λ o. beside s m.key m.value (option_and_then id_at o)) found ∙ known;
      last = known;
      here = member_text m.key m.value (subst (λ d. IsText d 5) m.object (event_text s e fits));
      there = string_text t;
    }

-- the line with the id after the event
id_behind : (s : Settings) → IsConfigured s → (t : List ℕ) (e : Event) (line text rest : List ℕ)
    → line ≡ codes "{\"" ++ text → BeginsWithOwn s e text rest → rest ≡ codes ",\"id\":\"" ++ (t ++ codes "\"}")
    → is_id t ≡ true → may_have_id e ≡ true → asked_event_of_line s line ≡ Some (with_id t e)
unfolding escape_byte
id_behind s c t e line text rest begun (_, fits, m) ended is may =
    let front = λ (l : List ℕ). codes "{\"" ++ (behind_quote m.key ++ (codes ":" ++ (compact_text m.value ++ l))) in
    behind_read (asked_event_at s) m.key (codes "id") m.value (string t) (with_id t e) line (identified s c t e fits m is may)
    (begun ∙ ap (λ l. codes "{\"" ++ l) m.written ∙ ap front ended
    ∙ ap (λ l. front (codes ",\"id\":" ++ l)) (sym (id_quoted t (codes "}") is)))

-- the line with the id before the event
pub id_before : (s : Settings) → IsConfigured s → (t : List ℕ) (e : Event) (line behind text rest : List ℕ)
    → line ≡ codes "{\"id\":\"" ++ (t ++ (codes "\"" ++ behind)) → behind ≡ codes ",\"" ++ text
    → BeginsWithOwn s e text rest → rest ≡ codes "}" → is_id t ≡ true → may_have_id e ≡ true
    → asked_event_of_line s line ≡ Some (with_id t e)
unfolding escape_byte
id_before s c t e line behind text rest begun after (_, fits, m) ended is may =
    let front = λ (l : List ℕ). codes "{\"id\":\"" ++ (t ++ (codes "\"" ++ l)) in
    let own = λ (l : List ℕ). codes ",\"" ++ (behind_quote m.key ++ (codes ":" ++ (compact_text m.value ++ l))) in
    before_read (asked_event_at s) m.key (codes "id") m.value (string t) (with_id t e) line (identified s c t e fits m is may)
    (begun ∙ ap front (after ∙ ap (λ l. codes ",\"" ++ l) m.written ∙ ap own ended)
    ∙ ap (λ l. codes "{\"id\":" ++ l) (sym (id_quoted t (own (codes "}")) is)))

-- the line with no id
none_behind : (s : Settings) → IsConfigured s → (e : Event) (line text rest : List ℕ) → line ≡ codes "{\"" ++ text
    → BeginsWithOwn s e text rest → rest ≡ codes "}" → asked_event_of_line s line ≡ Some (without_id e)
none_behind s c e line text rest begun (_, fits, m) ended =
    let same = in_object (event_json s e) line text rest [] begun m ended ∙ append-nil (compact_text (event_json s e)) in
    ap (asked_event_of_line s) same ∙ event_line s c e fits

-- the line with an id after the event, or none
pub ended_line : (s : Settings) → IsConfigured s → (t : List ℕ) (e : Event) (line text rest : List ℕ)
    → line ≡ codes "{\"" ++ text → BeginsWithOwn s e text rest → EndsWithId t rest
    → (is_id t ≡ true → may_have_id e ≡ true) → asked_event_of_line s line ≡ Some (with_id t e)
ended_line s c t e line text rest begun own (inl (none, ended)) may =
    none_behind s c e line text rest begun own ended ∙ ap (λ l. Some (with_id l e)) (sym none)
ended_line s c t e line text rest begun own (inr (is, ended)) may =
    id_behind s c t e line text rest begun own ended is (may is)

-- the line of an event with nothing after it
pub alone_line : (s : Settings) → IsConfigured s → (e : Event) (line rest id : List ℕ) → BeginsWithEvent s e line rest
    → rest ≡ [] → id ≡ [] → asked_event_of_line s line ≡ Some (with_id id e)
alone_line s c e line rest id (fits, begun) nothing none =
    let text = compact_text (event_json s e) in
    let all : line ≡ text = begun ∙ ap (λ l. text ++ l) nothing ∙ append-nil text in
    ap (asked_event_of_line s) all ∙ event_line s c e fits ∙ ap (λ l. Some (with_id l e)) (sym none)
