-- Calls that put nothing out, one after another.
use Rattle.std.proofs.Common.{◌≡◌, ℕ, List, arith, sym, subst, ◌∙◌}
use Rattle.std.specs.Prelude.{Result, Err, OnOk}
use Rattle.rb_journal.specs.Host.{DiskCause, Elapses, LeavesOnly}
use Rattle.rb_journal.specs.Quiet.{Quiet}
use Rattle.rb_journal.specs.declared.host.Host.{Ghosts}
use Rattle.rb_journal.specs.declared.host.HostError.{HostError}
use Rattle.rb_journal.proofs.Public.Moments.{goes_on, runs_on, started, weaker}

module _ {H : Type 0} {h : Ghosts H} where
  -- one call, before which each file that a crash leaves has P
  pub one_call : {T : Type 0} {P : List ℕ → Type 0} {old new : H} {r : Result T HostError} (during : List ℕ → Type 0)
      → ((c d : List ℕ) → h.left_since old (h.moment old) c d → P c × (d ≡ h.output old)) →
      Elapses h.moment h.left_since old new (λ c d. during c × (d ≡ h.output old))
      → ((c : List ℕ) → during c → P c) → OnOk r (h.is_usable new) → h.output new ≡ h.output old
      → h.reported new ≡ h.reported old → DiskCause (h.faults old) (h.faults new) r → Quiet h P old new r
  one_call {P} {old} {new} during start time here usable same reported cause = record {
    usable = usable;
    same = same;
    reported = reported;
    run = goes_on h.moment h.left_since old old new (λ c d. P c × (d ≡ h.output old)) (λ c d. during c × (d ≡ h.output old))
        (started h.moment h.left_since old (λ c d. P c × (d ≡ h.output old)) start) time (λ c d at. (here c at.0, at.1));
    cause = cause;
  }

  -- calls, and then others
  pub then_on : {T U : Type 0} {P Q : List ℕ → Type 0} {old mid new : H} {q : Result T HostError} {r : Result U HostError}
      → Quiet h P old mid q → Quiet h Q mid new r → ((c : List ℕ) → Q c → P c) → Quiet h P old new r
  then_on {P} {Q} {old} {mid} {new} was is here = record {
    usable = is.usable;
    same = is.same ∙ was.same;
    reported = is.reported ∙ was.reported;
    run = runs_on h.moment h.left_since old mid new (λ c d. P c × (d ≡ h.output old)) (λ c d. Q c × (d ≡ h.output mid)) was.run is.run
        (λ c d at. (here c at.0, at.1 ∙ was.same));
    cause = record {
      later = omega (arith, was.cause.later, is.cause.later);
      failed = λ e. omega (arith, was.cause.later, is.cause.failed e);
      output_failed = is.cause.output_failed;
      full = is.cause.full;
    };
  }

  -- a weaker claim
  pub weaken : {T : Type 0} {P Q : List ℕ → Type 0} {old new : H} {r : Result T HostError} → Quiet h P old new r
      → ((c : List ℕ) → P c → Q c) → Quiet h Q old new r
  weaken {P} {Q} {old} {new} quiet here = record {
    usable = quiet.usable;
    same = quiet.same;
    reported = quiet.reported;
    run = weaker h.moment h.left_since old new (λ c d. P c × (d ≡ h.output old)) (λ c d. Q c × (d ≡ h.output old)) quiet.run
        (λ c d at. (here c at.0, at.1));
    cause = quiet.cause;
  }

  -- an error that is given on
  pub stopped : {T U : Type 0} {P : List ℕ → Type 0} {old new : H} {r : Result T HostError} {s : Result U HostError} {e : HostError}
      → Quiet h P old new r → r ≡ Err e → s ≡ Err e → Quiet h P old new s
  stopped {new} quiet was is = record {
    usable = subst (λ x. OnOk x (h.is_usable new)) (sym is) tt;
    same = quiet.same;
    reported = quiet.reported;
    run = quiet.run;
    cause = record {
      later = quiet.cause.later;
      failed = λ e. quiet.cause.failed (cc (e, was, is));
      output_failed = λ e. quiet.cause.output_failed (cc (e, was, is));
      full = λ e. quiet.cause.full (cc (e, was, is));
    };
  }

  -- a weaker claim of each moment, with what was put out
  pub read_as : {T : Type 0} {P Q : List ℕ → Type 0} {old new : H} {r : Result T HostError} → Quiet h P old new r
      → ((c : List ℕ) → P c → Q c) → LeavesOnly h.moment h.left_since old new (λ c d. Q c × (d ≡ h.output old))
  read_as quiet here = (weaken quiet here).run

  -- the same of the file alone
  pub left_as : {T : Type 0} {P Q : List ℕ → Type 0} {old new : H} {r : Result T HostError} → Quiet h P old new r
      → ((c : List ℕ) → P c → Q c) → LeavesOnly h.moment h.left_since old new (λ c d. Q c)
  left_as {P} {Q} {old} {new} quiet here =
      weaker h.moment h.left_since old new (λ c d. P c × (d ≡ h.output old)) (λ c d. Q c) quiet.run (λ c d at. here c at.0)
