-- A log of calls, each with its answer, the newest first, and what it says of a file and an output.
use Rattle.std.specs.Prelude.{◌≡◌, ◌⊎◌, ℕ, suc, ◌+◌, ◌≤◌, Bool, true, false, List, [], ◌∷◌, ◌++◌, length, take, drop}
use Rattle.std.specs.Prelude.{slice_index, ◌==◌, if◌then◌else◌}
use Rattle.rb_journal.specs.Host.{Torn, Cut, AddsPrefix}

-- a call as it is noted: its kind, a number, whether it succeeded, and bytes
abbrev pub NotedCall : Type 0
NotedCall = ℕ × ℕ × Bool × List ℕ

abbrev pub noted_call_of : List ℕ → List ℕ → NotedCall
noted_call_of numbers bytes = (slice_index numbers 0, slice_index numbers 1, slice_index numbers 2 == 1, bytes)

pub data HostCall : Type 0 where
  -- the file was opened with these bytes, and it isn't known what is on the disk
  opened : (bytes : List ℕ) → HostCall
  -- these are the bytes of the file, all of them on the disk
  found : (bytes : List ℕ) → HostCall
  wrote : (ok : Bool) (at : ℕ) (bytes : List ℕ) → HostCall
  cut : (ok : Bool) (len : ℕ) → HostCall
  synced : (ok : Bool) → HostCall
  -- the first `count` of these bytes were put out
  output : (count : ℕ) (bytes : List ℕ) → HostCall
  -- these bytes were to be put out, and the call failed and put out none
  output_failed : (bytes : List ℕ) → HostCall
  -- these bytes were added to the end of the file that keeps what is cut off, and waited for
  kept : (ok : Bool) (bytes : List ℕ) → HostCall

abbrev pub host_call_of : NotedCall → HostCall
host_call_of (kind, number, ok, bytes) =
    if kind == 0 then found bytes
    else if kind == 1 then wrote ok number bytes
    else if kind == 2 then cut ok number
    else if kind == 3 then synced ok
    else if kind == 4 then output number bytes
    else if kind == 5 then output_failed bytes
    else if kind == 6 then kept ok bytes
    else opened bytes

-- what a read returns after the call
abbrev pub content_after : HostCall → List ℕ → List ℕ
content_after (opened bytes) file = bytes
content_after (found bytes) file = bytes
content_after (wrote ok at bytes) file = take at file ++ bytes ++ drop (at + length bytes) file
content_after (cut ok len) file = take len file
content_after _ file = file

abbrev pub content_of : List NotedCall → List ℕ
content_of [] = []
content_of (event ∷ past) = content_after (host_call_of event) (content_of past)

-- the files that were opened, in their order
abbrev pub files_after : HostCall → List (List ℕ) → List (List ℕ)
files_after (opened bytes) files = files ++ bytes ∷ []
files_after _ files = files

abbrev pub files_read : List NotedCall → List (List ℕ)
files_read [] = []
files_read (event ∷ past) = files_after (host_call_of event) (files_read past)

-- what has been put out after the call
abbrev pub output_after : HostCall → List ℕ → List ℕ
output_after (output count bytes) before = before ++ take count bytes
output_after _ before = before

abbrev pub output_of : List NotedCall → List ℕ
output_of [] = []
output_of (event ∷ past) = output_after (host_call_of event) (output_of past)

-- what is kept of what was cut off, after the call
abbrev pub kept_after : HostCall → List ℕ → List ℕ
kept_after (kept true bytes) before = before ++ bytes
kept_after _ before = before

-- since the file was opened
abbrev pub kept_of : List NotedCall → List ℕ
kept_of [] = []
kept_of (event ∷ past) = kept_after (host_call_of event) (kept_of past)

-- what file a crash may leave after the call: any, while it isn't known what is on the disk
abbrev pub leaves_after : HostCall → List ℕ → (List ℕ → Type 0) → List ℕ → Type 0
leaves_after (opened bytes) file before c = Unit {0}
leaves_after (found bytes) file before c = c ≡ bytes
leaves_after (wrote ok at bytes) file before c = (d : List ℕ) × before d × Torn at bytes d c
leaves_after (cut ok len) file before c = (d : List ℕ) × before d × Cut len d c
leaves_after (synced true) file before c = (c ≡ file) × before c
leaves_after _ file before c = before c

abbrev pub leaves : List NotedCall → List ℕ → Type 0
leaves [] c = c ≡ []
leaves (event ∷ past) c = leaves_after (host_call_of event) (content_of past) (leaves past) c

-- whether it is known after the call what a crash leaves
abbrev pub known_after : HostCall → Bool → Bool
known_after (opened bytes) before = false
known_after (found bytes) before = true
known_after _ before = before

abbrev pub knows_disk : List NotedCall → Bool
knows_disk [] = true
knows_disk (event ∷ past) = known_after (host_call_of event) (knows_disk past)

-- what a crash inside the call may leave, besides what it may leave before or after it
abbrev pub leaves_within : HostCall → (List ℕ → Type 0) → List ℕ → List ℕ → List ℕ → Type 0
leaves_within (output count bytes) before so_far c d = before c × AddsPrefix so_far bytes d
leaves_within (output_failed bytes) before so_far c d = before c × AddsPrefix so_far bytes d
leaves_within _ before so_far c d = ⊥

-- what a crash may have left since the time when there were t calls, at a moment at which that is known
abbrev pub left_since : List NotedCall → ℕ → List ℕ → List ℕ → Type 0
left_since [] t c d = (c ≡ []) × (d ≡ [])
left_since (event ∷ past) t c d =
    ((knows_disk (event ∷ past) ≡ true) × leaves (event ∷ past) c × (d ≡ output_of (event ∷ past)))
    ⊎ ((t ≤ length past) × (leaves_within (host_call_of event) (leaves past) (output_of past) c d ⊎ left_since past t c d))

abbrev pub faults_after : HostCall → ℕ → ℕ
faults_after (wrote false at bytes) n = suc n
faults_after (cut false len) n = suc n
faults_after (synced false) n = suc n
faults_after (output_failed bytes) n = suc n
faults_after (kept false bytes) n = suc n
faults_after _ n = n

abbrev pub faults_of : List NotedCall → ℕ
faults_of [] = 0
faults_of (event ∷ past) = faults_after (host_call_of event) (faults_of past)
