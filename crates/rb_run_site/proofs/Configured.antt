-- The lines after the configuration's line, and the site that is opened for it.
use Rattle.std.proofs.Common.{◌≡◌, ◌<◌, ◌≤◌, ◌+◌, ◌⊎◌, ℕ, Bool, true, List, [], ◌∷◌, ◌++◌, length, take, drop, Option}
use Rattle.std.proofs.Common.{Some, None, refl, sym, ap, subst, ◌∙◌, arith}
use Rattle.std.specs.Prelude.{IfSome}
use Rattle.std.specs.Io.KnownBytes.{IsAtEnd}
use Rattle.rb_site.specs.Seen.{IsReplayed}
use Rattle.rb_lines.specs.Lines.{line_len, lines_of}
use Rattle.rb_lines.proofs.Public.Walks.{Walks, after_line}
use Rattle.rb_node.specs.Asked.{AreIdsOnce, SeenAsked, first_asked, without_ids}
use Rattle.rb_node.specs.Replays.{IsReadWhole}
use Rattle.rb_run_site.specs.FirstLines.{WaitsAt}
use Rattle.rb_run_site.specs.Openings.{OpensFile, OpensSite}
use Rattle.rb_run_site.specs.Starts.{IsOf, WaitsBehind}
use Rattle.rb_run_site.proofs.Ids.{none_once}

-- the line at the front is the first of what waits
pub next_line : (p rest : List ℕ) (e : Bool) (n : ℕ) → n ≡ line_len p → n ≤ length p
    → (n < length p) ⊎ ((n ≡ length p) × (0 < n) × (e ≡ true))
    → (e ≡ true → rest ≡ []) → lines_of (p ++ rest) ≡ take n p ∷ lines_of (drop (n + 1) p ++ rest)
next_line p rest e n len fits at_front end =
    let walk : Walks (p ++ rest) [] p rest e = record { got = p; lines = refl; bytes = refl; whole = λ going tail. refl } in
    (after_line (p ++ rest) [] p rest e n walk len fits at_front end).lines

-- the configuration's line is taken: what waits is after it
pub behind : (a b : Option (List ℕ)) (number : ℕ) (p : List ℕ) (e : Bool) (n : ℕ) → IfSome a (WaitsAt number p b) → n ≡ line_len p
    → n ≤ length p → (n < length p) ⊎ ((n ≡ length p) × (0 < n) × (e ≡ true)) → (e ≡ true → IsAtEnd b)
    → IfSome a (WaitsBehind (take n p) (number + 1) (drop (n + 1) p) b)
behind None b number p e n w len fits at_front end = tt
behind (Some all) None number p e n w len fits at_front end = absurd (cc w.left_is)
behind (Some all) (Some rest) number p e n w len fits at_front end =
    let same : rest ≡ w.rest = cc w.left_is in
    let first = next_line p rest e n len fits at_front end in
    record {
      rest = rest;
      left_is = refl;
      behind = record {
        blanks = w.behind.blanks;
        are_blank = w.behind.are_blank;
        number_is = omega (arith, w.behind.number_is);
        whole = w.behind.whole ∙ ap (λ r. w.behind.blanks ++ lines_of (p ++ r)) (sym same) ∙ ap (λ ls. w.behind.blanks ++ ls) first;
      };
    }

-- a site before any event has nothing to replay
pub first_replayed : (old : SeenAsked) (me : ℕ) (bank : List ℕ) → me < old.settings.sites → old ≡ first_asked old.settings me bank
    → IsReplayed (without_ids old)
first_replayed old me bank low begins =
    subst (λ x. IsReplayed (without_ids x)) (sym begins) (record { within = low; replays = tt; room = omega arith })

first_read : (old : SeenAsked) (me : ℕ) (bank : List ℕ) → old ≡ first_asked old.settings me bank → IsReadWhole old
first_read old me bank begins = subst IsReadWhole (sym begins) tt

-- nor has it an id
pub first_once : (old : SeenAsked) (me : ℕ) (bank : List ℕ) → old ≡ first_asked old.settings me bank → AreIdsOnce old.asked
first_once old me bank begins = subst (λ (x : SeenAsked). AreIdsOnce x.asked) (sym begins) none_once

-- the site that a file is replayed at is the configuration's
pub opened : (config : List ℕ) (me : ℕ) (bank : List ℕ) (most : ℕ) (old new : SeenAsked) (file first sends : List ℕ)
    → IsOf config me bank old
    → old ≡ first_asked old.settings me bank → OpensFile old new file first sends most → OpensSite config me bank most file new first sends
opened config me bank most old new file first sends is begins o = record {
  is_of = record {
    configured = is.configured ∙ ap Some (sym o.settings);
    me_is = o.me ∙ is.me_is;
    bank_is = o.bank ∙ is.bank_is;
    within = subst (λ c. me < c.sites) (sym o.settings) is.within;
  };
  replayed = o.replayed (first_replayed old me bank is.within begins);
  read = o.read (first_read old me bank begins);
  once = o.once (first_once old me bank begins);
  journal = o.journal;
  begins = o.begins;
  undamaged = o.undamaged;
  sends_are = o.sends_are;
}
