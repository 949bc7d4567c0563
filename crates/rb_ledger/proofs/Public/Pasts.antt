-- Operations of which each follows a valid list of just its past: facts that hold at every list with more of them.
use Rattle.rb_ledger.proofs.Words.{BadMessage, unless, ◌≡◌, true, false, List, [], ◌∷◌, ◌++◌, ◌||◌, refl, ap, sym, ◌∙◌}
use Rattle.rb_ledger.proofs.Words.{subst, pos, ◌≤ℤ◌, option_and_then, Option, Some, None, Settings, Place, OpName, Blue}
use Rattle.rb_ledger.proofs.Words.{Red, Kind, Deposit, Withdraw, Cancel, Transfer, Colour, RedColour, Shadow, Among}
use Rattle.rb_ledger.proofs.Words.{AreSame, EachEntry, IsUnique, IsWithin, Precedes, bal, cancels, colour_in, colour_of}
use Rattle.rb_ledger.proofs.Words.{is_red, kind_in, names, past, shown_colour, target_of, IsPart, IsSound, IsCovered}
use Rattle.rb_ledger.proofs.Words.{adds, takes, HasTarget, IsValid, refusal_of_sound}
use Rattle.rb_shadow.proofs.Public.Members
use Rattle.rb_shadow.proofs.Public.Balances
use Rattle.rb_ledger.proofs.Public.Legal
use Rattle.rb_ledger.proofs.Public.Pushes

-- it follows a valid list of these whose names are its past
pub record HasValidPast (s : Settings) (all : List Shadow) (v : Shadow) : Type 0 where
  pub before : List Shadow
  pub part : IsPart before all
  pub is_past : AreSame (names before) (past v)
  pub valid : IsValid s (before ++ v ∷ [])

-- each operation follows a valid list of its past
abbrev pub HaveValidPasts : Settings → List Shadow → Type 0
HaveValidPasts s all = (v : Shadow) → Among v all → HasValidPast s all v

-- an operation may follow the list of its past
pub follows : (s : Settings) (all : List Shadow) (v : Shadow) → (p : HasValidPast s all v) → Legal.MayFollow s p.before v
follows s all v p = Legal.IsValid-last s p.before v p.valid

-- it is sound
pub is_sound : (s : Settings) (all : List Shadow) (v : Shadow) → HasValidPast s all v → IsSound s v
is_sound s all v p = (follows s all v p).sound

-- the same among more operations
pub among_more : (s : Settings) (us vs : List Shadow) (v : Shadow) → IsPart us vs → HasValidPast s us v → HasValidPast s vs v
among_more s us vs v part p = record { before = p.before; part = λ u h. part u (p.part u h); is_past = p.is_past; valid = p.valid }

unique_past : (s : Settings) (all : List Shadow) (v : Shadow) → (p : HasValidPast s all v) → IsUnique p.before
unique_past s all v p = Members.IsUnique-front p.before (v ∷ []) p.valid.unique

-- ---- the order

-- the past of an operation of the list is in the list
pub past_inside : (us : List Shadow) (v : Shadow) → EachEntry us (λ before v. IsWithin (past v) (names before)) → Among v us →
    IsWithin (past v) (names us)
past_inside us v each h x k =
    let (before, after, e) = Members.split_at us v h in
    ap (λ ws. names ws x) e ∙ Members.names-append before (v ∷ after) x ∙ ap (λ b. b || names (v ∷ after) x) (each before v after e x k)

-- an operation of the set whose name the list has is in the list
pub named_there : (all us : List Shadow) (u : Shadow) → IsUnique all → IsPart us all → Among u all → names us u.name ≡ true → Among u us
named_there all us u unique part h k =
    let (v, there, e) = Members.find_named us u.name k in
    subst (λ w. Among w us) (Members.same_named all v u unique (part v there) h e) there

-- its past is among the names of all
pub closed : (s : Settings) (all : List Shadow) (v : Shadow) → HasValidPast s all v → IsWithin (past v) (names all)
closed s all v p x h = Balances.names-part p.before all p.part x (p.is_past x ∙ h)

-- it doesn't precede itself
pub irreflexive : (s : Settings) (all : List Shadow) (v : Shadow) → HasValidPast s all v → Precedes v v → ⊥
irreflexive s all v p h = Members.true≢false (sym (p.is_past v.name ∙ h) ∙ (follows s all v p).fresh)

-- what precedes it has a past within its own
pub transitive : (s : Settings) (all : List Shadow) (u v : Shadow) → IsUnique all → Among u all → HasValidPast s all v → Precedes u v →
    IsWithin (past u) (past v)
transitive s all u v unique h p before x k =
    sym (p.is_past x)
    ∙ past_inside p.before u (Legal.IsValid-front s p.before (v ∷ []) p.valid).past_before
    (named_there all p.before u unique p.part h (p.is_past u.name ∙ before)) x k

-- ---- the colour

target_more : (us vs : List Shadow) (v : Shadow) (o : Option OpName) → IsPart us vs → HasTarget us v o → HasTarget vs v o
target_more us vs v None part h = tt
target_more us vs v (Some x) part (t, there, named, right) = (t, part t there, named, right)

colour_more : (us vs : List Shadow) (v : Shadow) (k : Kind) → IsUnique us → IsUnique vs → IsPart us vs → HasTarget us v (target_of k)
    → colour_of k (option_and_then (kind_in us) (target_of k)) ≡ colour_of k (option_and_then (kind_in vs) (target_of k))
colour_more us vs v k uu uv part h = ap (colour_of k) (at (target_of k) h)
  where
    at : (o : Option OpName) → HasTarget us v o → option_and_then (kind_in us) o ≡ option_and_then (kind_in vs) o
    at None h = refl
    at (Some x) (t, there, named, right) = ap (kind_in us) (sym named) ∙ Pushes.kind_in-named us t uu there
        ∙ sym (Pushes.kind_in-named vs t uv (part t there)) ∙ ap (kind_in vs) named

-- the name shows the colour that the operation has among all
pub shown : (s : Settings) (all : List Shadow) (v : Shadow) → IsUnique all → HasValidPast s all v →
    shown_colour v.name ≡ colour_in all v.kind
shown s all v unique p = let f = follows s all v p in f.colour ∙ colour_more p.before all v v.kind (unique_past s all v p) unique p.part
    f.target

-- a name that shows red is a red one
pub is_red-shown : (x : OpName) (c : Colour) → shown_colour x ≡ c → c ≡ RedColour → is_red x ≡ true
is_red-shown (Blue i n) c e k = cc
is_red-shown (Red n) c e k = refl

-- ---- the money

-- what takes is red
takes_red : (k : Kind) (t : Option Kind) → takes k ≡ true → colour_of k t ≡ RedColour
takes_red Withdraw t h = refl
takes_red (Transfer to) t h = refl
takes_red k t h = cc

-- what takes back what was added is red
undoes_red : (us : List Shadow) (u : Shadow) (k : Kind) → IsUnique us → Among u us → cancels k u.name ≡ true → adds u.kind ≡ true →
    colour_of k (option_and_then (kind_in us) (target_of k)) ≡ RedColour
undoes_red us u (Cancel x) unique there h a = ap (colour_of (Cancel x)) (ap (kind_in us) (Members.same_name-true x u.name h)
    ∙ Pushes.kind_in-named us u unique there) ∙ red u.kind a
  where
    red : (k : Kind) → adds k ≡ true → colour_of (Cancel x) (Some k) ≡ RedColour
    red Deposit a = refl
    red (Transfer to) a = refl
    red k a = cc
undoes_red us u k unique there h a = cc

-- no balance of a part that has its pasts is negative
pub is_covered : (s : Settings) (all : List Shadow) → IsUnique all → HaveValidPasts s all → IsCovered s all
is_covered s all unique pasts = record {
  taken_red = λ u h e. is_red-shown u.name (colour_in all u.kind) (shown s all u unique (pasts u h)) (takes_red u.kind _ e);
  cancel_red = λ u c h k e a. is_red-shown c.name (colour_in all c.kind) (shown s all c unique (pasts c k))
      (undoes_red all u c.kind unique h e a);
  checked = λ r h red. let p = pasts r h in (
    p.before,
    p.part,
    unique_past s all r p,
    p.is_past,
    λ a. Legal.covers s (p.before ++ r ∷ []) a p.valid,
  );
}

-- ---- at a list that has its past

-- it passes the check there, if it is new and the money is there
pub passes : (s : Settings) (all us : List Shadow) (v : Shadow) → IsUnique all → HasValidPast s all v → IsUnique us → IsPart us all
    → names us v.name ≡ false → IsWithin (past v) (names us) → ((a : Place) → pos 0 ≤ℤ bal s (us ++ v ∷ []) a)
    → refusal_of_sound s us v ≡ None
passes s all us v unique p uu part fresh within money = sym (ap (λ o. unless (λ why. Some (BadMessage why)) o (refusal_of_sound s us v))
    f.sound) ∙ Legal.follows_may s us v uu may
  where
    f : Legal.MayFollow s p.before v
    f = follows s all v p

    inside : IsPart p.before us
    inside = Balances.part_by_names all p.before us unique p.part part (λ x h. within x (sym (p.is_past x) ∙ h))

    may : Legal.MayFollow s us v
    may = record {
      sound = f.sound;
      fresh = fresh;
      eligible = within;
      target = target_more p.before us v (target_of v.kind) inside f.target;
      colour = f.colour ∙ colour_more p.before us v v.kind (unique_past s all v p) uu inside f.target;
      covered = money;
    }
