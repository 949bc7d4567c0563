-- Operations, their order, serializations and balances.
use Rattle.std.specs.Prelude.{◌≡◌, ◌≢◌, ℕ, suc, ◌+◌, ◌<◌, Bool, true, false, if◌then◌else◌, not, ◌&&◌, nat_le, nat_eq, ◌==◌, List, [], ◌∷◌}
use Rattle.std.specs.Prelude.{◌++◌, Option, Some, None, is_some, option_and_then, option_to_list, slice_index, ◌⊎◌, ℤ, pos, neg_ℤ, ◌+ℤ◌}
use Rattle.std.specs.Prelude.{filter, map, find, count_by}
use Rattle.std.specs.List.{range_with_len, list_all, list_any}
use Rattle.std.specs.Cmp.Lexicographic.{pointwise}
use Rattle.rb_money.specs.Refusals.{unless}
use Rattle.rb_money.specs.Settings.{Settings, start_of}
use Rattle.rb_money.specs.declared.limits.TheConstants.{MOST_SITES}
use Rattle.rb_money.specs.declared.place.Place.{Place}
use Rattle.rb_shadow.specs.declared.op_name.OpName.{OpName}
use Rattle.rb_shadow.specs.declared.op_name.OpName.TheVariants.{Blue, Red}
use Rattle.rb_shadow.specs.declared.kind.Kind.{Kind}
use Rattle.rb_shadow.specs.declared.kind.Kind.TheVariants.{Deposit, Withdraw, Declined, Interest, Cancel, Transfer}
use Rattle.rb_shadow.specs.declared.colour.Colour.{Colour}
use Rattle.rb_shadow.specs.declared.colour.Colour.TheVariants.{Blue as BlueColour, Red as RedColour}
use Rattle.rb_shadow.specs.declared.deps.Deps.{Deps}
use Rattle.rb_shadow.specs.declared.shadow.Shadow.{Shadow}

-- two names are the same
abbrev pub same_name : OpName → OpName → Bool
same_name (Blue i m) (Blue j n) = (i == j) && (m == n)
same_name (Red m) (Red n) = m == n
same_name (Blue i m) (Red n) = false
same_name (Red m) (Blue j n) = false

-- a set of names, by its members
abbrev pub NameSet : Type 0
NameSet = OpName → Bool

-- each member of the first is one of the second
abbrev pub IsWithin : NameSet → NameSet → Type 0
IsWithin xs ys = (x : OpName) → xs x ≡ true → ys x ≡ true

-- they have the same members
abbrev pub AreSame : NameSet → NameSet → Type 0
AreSame xs ys = (x : OpName) → xs x ≡ ys x

-- the names that a clock counts: of each site's blue and of the red operations, those from 1 to the entry
abbrev pub names_of_clock : Deps → NameSet
names_of_clock c (Blue i n) = nat_le 1 n && nat_le n (slice_index c.blue i)
names_of_clock c (Red n) = nat_le 1 n && nat_le n c.red

-- what the operation's home had applied just before it
unfoldable pub past : Shadow → NameSet
past v = names_of_clock v.deps

-- u precedes v: v's home had applied u
abbrev pub Precedes : Shadow → Shadow → Type 0
Precedes u v = past v u.name ≡ true

-- the names of a list of operations
abbrev pub names : List Shadow → NameSet
names us x = list_any (λ u. same_name u.name x) us

-- u is one of the operations
abbrev pub Among : Shadow → List Shadow → Type 0
Among u [] = ⊥
Among u (v ∷ vs) = (u ≡ v) ⊎ Among u vs

-- the kind of the operation of a name
abbrev pub kind_in : List Shadow → OpName → Option Kind
kind_in [] x = None
kind_in (u ∷ us) x = if same_name u.name x then Some u.kind else kind_in us x

-- the target of a cancellation, by its name; nothing else has a target
abbrev pub target_of : Kind → Option OpName
target_of (Cancel x) = Some x
target_of _ = None

-- the account to which an operation of a kind moves its amount; only a transfer has one
abbrev pub receiver_of : Kind → Option Place
receiver_of (Transfer to) = Some to
receiver_of _ = None

-- it cancels the operation of the name: its target, if it has one, is of that name
abbrev pub cancels : Kind → OpName → Bool
cancels k y = unless (λ x. same_name x y) (target_of k) false

-- an operation's colour, by its kind and by its target's: a withdrawal and a transfer are red, and so is a cancellation
-- of anything but a withdrawal
abbrev pub colour_of : Kind → Option Kind → Colour
colour_of Withdraw target = RedColour
colour_of (Transfer to) target = RedColour
colour_of (Cancel x) (Some Withdraw) = BlueColour
colour_of (Cancel x) target = RedColour
colour_of _ target = BlueColour

-- how many of the operations cancel the one of the name
abbrev pub cancel_count : List Shadow → OpName → ℕ
cancel_count us x = count_by (λ u. cancels u.kind x) us

-- whether one of the operations cancels the one of the name
abbrev pub is_cancelled : List Shadow → OpName → Bool
is_cancelled us x = list_any (λ u. cancels u.kind x) us

-- what an operation of a kind and an amount moves on its own account: a deposit and interest add it, a withdrawal and a
-- transfer take it
abbrev pub moved : Kind → ℕ → ℤ
moved Deposit n = pos n
moved Interest n = pos n
moved Withdraw n = neg_ℤ (pos n)
moved (Transfer to) n = neg_ℤ (pos n)
moved _ n = pos 0

-- what arrives at an account of an amount that is moved to the receiver, if there is one
abbrev pub arrived : Option Place → ℕ → Place → ℤ
arrived None n a = pos 0
arrived (Some to) n a = if to.0 == a.0 then pos n else pos 0

-- what an operation moves on an account: on its own what its kind says, on a transfer's second account its amount, and
-- nothing on any other
abbrev pub delta : Shadow → Place → ℤ
delta u a = if u.account.0 == a.0 then moved u.kind u.amount else arrived (receiver_of u.kind) u.amount a

-- the second account of an operation of a kind: a transfer's, or that of the transfer that it cancels
abbrev pub other_of : List Shadow → Kind → Option Place
other_of us k = unless (λ x. option_and_then receiver_of (kind_in us x)) (target_of k) (receiver_of k)

-- the accounts whose balances an operation may change: its own, and its second one, if it has one
abbrev pub accounts_on : List Shadow → Shadow → List Place
accounts_on us v = v.account ∷ option_to_list (other_of us v.kind)

-- the account is one of those
abbrev pub is_on : List Shadow → Shadow → Place → Bool
is_on us v a = list_any (λ (p : Place). p.0 == a.0) (accounts_on us v)

-- the operations without the cancellations, which have targets, and without what they cancel
abbrev pub kept : List Shadow → List Shadow
kept us = filter (λ u. not (is_some (target_of u.kind)) && not (is_cancelled us u.name)) us

-- the sum of a number of each operation
abbrev pub total : (Shadow → ℤ) → List Shadow → ℤ
total f [] = pos 0
total f (u ∷ us) = f u +ℤ total f us

-- the balance: the start and the deltas of what is kept
unfoldable pub bal : Settings → List Shadow → Place → ℤ
bal s us a = pos (start_of s a) +ℤ total (λ u. delta u a) (kept us)

-- no two operations have the same name
abbrev pub IsUnique : List Shadow → Type 0
IsUnique [] = Unit {0}
IsUnique (u ∷ us) = (names us u.name ≡ false) × IsUnique us

-- the fact holds of each operation of the list, with those before it
abbrev pub EachEntry : List Shadow → (List Shadow → Shadow → Type 0) → Type 0
EachEntry us P = (before : List Shadow) (v : Shadow) (after : List Shadow) → us ≡ before ++ v ∷ after → P before v

-- the colour of an operation of a kind, by its target's kind among the operations
abbrev pub colour_in : List Shadow → Kind → Colour
colour_in us k = colour_of k (option_and_then (kind_in us) (target_of k))

-- of two different operations one precedes the other
abbrev pub AreOrdered : Shadow → Shadow → Type 0
AreOrdered u v = u.name ≢ v.name → Precedes u v ⊎ Precedes v u

-- a RedBlue order: a set of operations, ordered by their pasts, in which the red ones, and those of one home, are in
-- line
pub record IsLawful (us : List Shadow) : Type 0 where
  pub unique : IsUnique us
  pub closed : (v : Shadow) → Among v us → IsWithin (past v) (names us)
  pub transitive : (t u v : Shadow) → Among t us → Among u us → Among v us → Precedes t u → Precedes u v → Precedes t v
  pub irreflexive : (u : Shadow) → Among u us → ¬ Precedes u u
  pub reds : (u v : Shadow) → Among u us → Among v us → colour_in us u.kind ≡ RedColour → colour_in us v.kind ≡ RedColour → AreOrdered u v
  pub homes : (u v : Shadow) → Among u us → Among v us → u.home ≡ v.home → AreOrdered u v

-- a causal serialization at a site: an operation comes after its past, and one of this site after just its past
pub record IsSerialization (site : ℕ) (us : List Shadow) : Type 0 where
  pub unique : IsUnique us
  pub past_before : EachEntry us (λ before v. IsWithin (past v) (names before))
  pub own_past : EachEntry us (λ before v. v.home ≡ site → AreSame (past v) (names before))

-- two lists leave equal balances, numbers of cancellations and names
pub record Agree (s : Settings) (us vs : List Shadow) : Type 0 where
  pub balances : (a : Place) → bal s us a ≡ bal s vs a
  pub cancels : (x : OpName) → cancel_count us x ≡ cancel_count vs x
  pub names : AreSame (names us) (names vs)

-- the number of a name
abbrev pub number_of : OpName → ℕ
number_of (Blue i n) = n
number_of (Red n) = n

-- the row of a name, for operations kept in rows: first the red ones, and then the blue ones of each site
abbrev pub row_of : OpName → ℕ
row_of (Blue i n) = suc i
row_of (Red n) = 0

-- the colour that a name shows
abbrev pub shown_colour : OpName → Colour
shown_colour (Blue i n) = BlueColour
shown_colour (Red n) = RedColour

-- two colours are the same
abbrev pub same_colour : Colour → Colour → Bool
same_colour BlueColour BlueColour = true
same_colour RedColour RedColour = true
same_colour _ _ = false

-- the clock's entry for the name
abbrev pub entry_of : Deps → OpName → ℕ
entry_of c (Blue i n) = slice_index c.blue i
entry_of c (Red n) = c.red

-- a clock has an entry for the name: a blue one's site is one of those that there may be
abbrev pub HasEntry : OpName → Type 0
HasEntry (Blue i n) = i < MOST_SITES
HasEntry (Red n) = Unit {0}

-- a Deposit, a Withdraw, an Interest or a Transfer may be cancelled
abbrev pub may_be_cancelled : Kind → Bool
may_be_cancelled Deposit = true
may_be_cancelled Withdraw = true
may_be_cancelled Interest = true
may_be_cancelled (Transfer to) = true
may_be_cancelled _ = false

-- the name is a blue one of the site
abbrev pub is_blue_of : OpName → ℕ → Bool
is_blue_of (Blue i n) j = i == j
is_blue_of (Red n) j = false

-- the name is a red one
abbrev pub is_red : OpName → Bool
is_red (Blue i n) = false
is_red (Red n) = true

-- how many of the operations have a blue name of the site
abbrev pub blue_count : List Shadow → ℕ → ℕ
blue_count us i = count_by (λ u. is_blue_of u.name i) us

-- how many of them have a red name
abbrev pub red_count : List Shadow → ℕ
red_count us = count_by (λ u. is_red u.name) us

-- those numbers, as a shadow made now would carry them
unfoldable pub clock_of : List Shadow → Deps
clock_of us = record { blue = map (blue_count us) (range_with_len 0 MOST_SITES); red = red_count us }

-- the blue names that a clock counts, from a site on
abbrev pub blue_listed : ℕ → List ℕ → List OpName
blue_listed i [] = []
blue_listed i (n ∷ ns) = map (λ m. Blue i m) (range_with_len 1 n) ++ blue_listed (i + 1) ns

-- all the names that a clock counts, listed
unfoldable pub names_listed : Deps → List OpName
names_listed c = blue_listed 0 c.blue ++ map (λ m. Red m) (range_with_len 1 c.red)

-- the operation's past is among the names
unfoldable pub is_eligible : List Shadow → Shadow → Bool
is_eligible us v = list_all (names us) (names_listed v.deps)

-- two kinds are the same
abbrev pub same_kind : Kind → Kind → Bool
same_kind Deposit Deposit = true
same_kind Withdraw Withdraw = true
same_kind Declined Declined = true
same_kind Interest Interest = true
same_kind (Cancel x) (Cancel y) = same_name x y
same_kind (Transfer a) (Transfer b) = a.0 == b.0
same_kind _ _ = false

-- two shadows are the same, field by field
unfoldable pub same_shadow : Shadow → Shadow → Bool
same_shadow u v =
    same_name u.name v.name && (u.home == v.home) && pointwise nat_eq u.deps.blue v.deps.blue && (u.deps.red == v.deps.red)
    && (u.account.0 == v.account.0) && (u.amount == v.amount) && same_kind u.kind v.kind

-- the operation of the name
abbrev pub find_in : List Shadow → OpName → Option Shadow
find_in us x = find (λ u. same_name u.name x) us
