-- The result of closing the books for C.
use Rattle.std.specs.Prelude.{◌≡◌, ◌≢◌, ◌⊎◌, ◌≤◌, ℕ, ℤ, ◌==◌, Bool, true, false, List, [], ◌∷◌, length, map, take, drop, sum}
use Rattle.std.specs.Prelude.{Option, None, Some, Result, Ok, Err, if◌then◌else◌}
use Rattle.std.specs.Str.{is_utf8}
use Rattle.rb_lines.specs.Lines.{lines_of}
use Rattle.rb_money.specs.declared.limits.TheConstants.{MOST_SITES}
use Rattle.rb_runs.specs.Books.{NextBank}
use Rattle.rb_runs.specs.Closes.{ClosesAs}
use Rattle.rb_runs.specs.declared.books.added_fault.AddedFault.TheVariants.{There, NoName, TooMany}
use Rattle.rb_runs.specs.declared.books.close_fault.CloseFault.{CloseFault}
use Rattle.rb_runs.specs.declared.books.close_fault.CloseFault.TheVariants.{Added, Unread, Journal, Write, OutOfMemory}
use Rattle.rb_runs.specs.declared.books.journal_fault.JournalFault.TheVariants.{NotSealed, AnotherBank, BadLine, AnotherSite, Count}
use Rattle.rb_capi.specs.declared.ending.Ending.{Ending}
use Rattle.rb_capi.specs.declared.not_closed.NotClosed.{NotClosed}
use Rattle.rb_capi.specs.declared.not_closed.NotClosed.TheVariants.{Sites, Lengths, Fault}
use Rattle.rb_capi.specs.Endings.{IsHandedOver}

-- ---- what C asks

-- a number of sites, or 0 for as many as before; the names of the accounts that are added, a line each; the journals,
-- one after another; and how many bytes each of them has
pub record CloseCall : Type 0 where
  pub sites : ℕ
  pub names : List ℕ
  pub journals : List ℕ
  pub lengths : List ℕ

-- the next bank may have this number of sites, or as many as before
abbrev pub MayBeAsked : ℕ → Type 0
MayBeAsked n = (n ≡ 0) ⊎ ((2 ≤ n) × (n ≤ MOST_SITES))

abbrev pub sites_asked : ℕ → Option ℕ
sites_asked n = if n == 0 then None else Some n

-- the name on a line, which is taken for an empty one, as no account has, if it isn't UTF-8
abbrev pub name_on : List ℕ → List ℕ
name_on l = if is_utf8 l then l else []

abbrev pub next_asked : CloseCall → NextBank
next_asked c = record { sites = sites_asked c.sites; added = map name_on (lines_of c.names) }

-- ---- how it ends

-- the files of these lengths that the bytes are cut into
abbrev pub pieces_of : List ℕ → List ℕ → List (List ℕ)
pieces_of [] bytes = []
pieces_of (n ∷ ns) bytes = take n bytes ∷ pieces_of ns (drop n bytes)

-- a read or a write fails for want of memory alone
abbrev pub closed_in_memory : Result Bool CloseFault → Result Bool CloseFault
closed_in_memory (Ok closed) = Ok closed
closed_in_memory (Err (Added why)) = Err (Added why)
closed_in_memory (Err (Unread site)) = Err OutOfMemory
closed_in_memory (Err (Journal site fault)) = Err (Journal site fault)
closed_in_memory (Err Write) = Err OutOfMemory
closed_in_memory (Err OutOfMemory) = Err OutOfMemory

-- the text that was written, or none if a read or a write failed
abbrev pub closed_text : Result Bool CloseFault → List ℕ → List ℕ
closed_text (Ok closed) text = text
closed_text (Err (Added why)) text = text
closed_text (Err (Unread site)) text = []
closed_text (Err (Journal site fault)) text = text
closed_text (Err Write) text = []
closed_text (Err OutOfMemory) text = text

-- no read and no write failed
pub record IsClosedInMemory (r : Result Bool CloseFault) : Type 0 where
  pub no_read : (site : ℕ) → r ≢ Err (Unread site)
  pub no_write : r ≢ Err Write

-- what was asked is proper, and closing the books ended as it may, by as many journals as were read
pub record RunsClose (c : CloseCall) (r : Result Bool CloseFault) (text : List ℕ) : Type 0 where
  pub sites : MayBeAsked c.sites
  pub some : c.lengths ≢ []
  pub fit : sum c.lengths ≡ length c.journals
  pub read : ℕ
  pub ran : ClosesAs (next_asked c) (length c.lengths) (take read (pieces_of c.lengths c.journals)) r text
  pub in_memory : IsClosedInMemory r

-- the sites are tested first, then the lengths; then the books are closed
abbrev pub CallEndsAs : CloseCall → Result Bool NotClosed → List ℕ → Type 0
CallEndsAs c (Ok closed) text = RunsClose c (Ok closed) text
CallEndsAs c (Err Sites) text = (¬ MayBeAsked c.sites) × (text ≡ [])
CallEndsAs c (Err Lengths) text =
    MayBeAsked c.sites × ((c.lengths ≡ []) ⊎ (sum c.lengths ≢ length c.journals)) × (text ≡ [])
CallEndsAs c (Err (Fault why)) text = RunsClose c (Err why) text

-- ---- what C finds

-- the status of a fault: each has one of its own, but that a bad line and want of memory have those of other runs
abbrev pub close_code : CloseFault → ℕ
close_code (Journal site (BadLine n)) = 2
close_code (Journal site NotSealed) = 5
close_code (Journal site AnotherBank) = 6
close_code (Journal site (AnotherSite n)) = 7
close_code (Journal site (Count n m)) = 8
close_code (Added (There i)) = 10
close_code (Added (NoName i)) = 11
close_code (Added TooMany) = 12
close_code _ = 4

-- the number beside it: that of a line that is wrong, from 1; how many sites the bank has; or which of the added
-- accounts it is, from 0
abbrev pub close_number : CloseFault → ℕ
close_number (Journal site (BadLine n)) = n
close_number (Journal site (AnotherSite n)) = n
close_number (Journal site (Count n m)) = m
close_number (Added (There i)) = i
close_number (Added (NoName i)) = i
close_number _ = 0

-- which journal is wrong, from 0, or 0 if none is
abbrev pub journal_of_fault : CloseFault → ℕ
journal_of_fault (Journal site fault) = site
journal_of_fault _ = 0

-- the status, and the number
abbrev pub ending_of_close : Result Bool NotClosed → Ending
ending_of_close (Ok true) = record { status = 0; number = 1 }
ending_of_close (Ok false) = record { status = 1; number = 1 }
ending_of_close (Err Sites) = record { status = 9; number = 0 }
ending_of_close (Err Lengths) = record { status = 13; number = 0 }
ending_of_close (Err (Fault why)) = record { status = close_code why; number = close_number why }

abbrev pub journal_of_close : Result Bool NotClosed → ℕ
journal_of_close (Err (Fault why)) = journal_of_fault why
journal_of_close _ = 0

-- the call ended as it may, in memory, and C finds what it wrote, how it ended, and which journal is wrong
pub record AnswersClose (c : CloseCall) (before after : List ℕ) (written number journal : ℕ) (status : ℤ) : Type 0 where
  pub result : Result Bool NotClosed
  pub text : List ℕ
  pub ended : CallEndsAs c result text
  pub journal_is : journal ≡ journal_of_close result
  pub handed : IsHandedOver text (ending_of_close result) before after written number status
