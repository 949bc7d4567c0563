-- The next bank is a bank.
use Rattle.rb_runs.proofs.Words.{◌≡◌, ℕ, ◌==◌, List, [], ◌++◌, length, None, Ok, codes, refl, sym, ap, ◌∙◌, subst}
use Rattle.rb_runs.proofs.Words.{inr, append-nil, if◌then◌else◌, replicate, length-map-range_with_len}
use Rattle.rb_runs.proofs.Words.{compact_text, cents, config_fault, IsConfigured, IsVersion, Settings, version_of}
use Rattle.rb_runs.proofs.Words.{bal, balances_of, ConfigsAreRead, config_json, ConfigsAreLines, lines_of, IsBank}
use Rattle.rb_runs.proofs.Words.{NextIsConfigured, NextBank, next_accounts, next_settings, sites_of_next, next_version, next_with}
use Rattle.rb_runs.proofs.Words.{HasShortLines, InputsAreReadBack, input_of}
use Rattle.std.proofs.lemmas.Bool.{cond_both}
use Rattle.rb_money.proofs.Public.Configured.{parts_configured}
use Rattle.rb_runs.specs.Texts.{config_line}
use Rattle.rb_runs.proofs.Kept.{in_version}
use Rattle.rb_runs.proofs.NextAccounts.{names_listed, starts_listed}
use Rattle.rb_runs.proofs.ReadBack.{on_utf8_config}

-- ---- the configuration

-- the version of the next bank's lines is one that they may have
next_may : (old sites : ℕ) → IsVersion (version_of sites) sites → IsVersion (if old == 2 then 2 else version_of sites) sites
next_may old sites may = cond_both (old == 2) 2 (version_of sites) (λ v. IsVersion v sites) (λ _. inr refl) (λ _. may)

-- if nothing is wrong, the next bank is configured
next_configured : (s : Settings) (balances : List ℕ) (ask : NextBank) → length balances ≡ length s.names →
    config_fault (sites_of_next s ask.sites) (next_accounts s balances ask) s.limits ≡ None → IsConfigured (next_with s balances ask)
next_configured s balances ask same none =
    let sites : ℕ = sites_of_next s ask.sites in
    let c = rw (names_listed s.names balances ask.added same, starts_listed s.names balances ask.added same)
    at (parts_configured sites (next_accounts s balances ask) s.limits none) in
    in_version _ (next_version s sites) c (next_may s.version sites c.version)

-- ---- its line

line_is : (s : Settings) → (compact_text (config_json s) ++ codes "\n") ++ [] ≡ config_line s
unfolding config_line
line_is s = append-nil (compact_text (config_json s) ++ codes "\n")

-- the line of a configuration is taken as a bank with no entry
taken : InputsAreReadBack → (s : Settings) → IsConfigured s → HasShortLines (config_line s) →
    input_of (lines_of (config_line s)) ≡ Ok (record { settings = s; histories = replicate s.sites [] })
taken back s c short =
    ap (λ bytes. input_of (lines_of bytes)) (sym (line_is s)) ∙ back s c [] tt (subst HasShortLines (sym (line_is s)) short)

-- a configuration is a bank
is_bank : ConfigsAreRead → ConfigsAreLines → InputsAreReadBack → (s : Settings) → IsConfigured s → IsBank s
is_bank read lines back s c = record {
  configured = c;
  line = on_utf8_config (compact_text (config_json s)) s (lines s c).utf8 (read s c);
  text = taken back s c;
}

-- the next bank is a bank
pub next_bank : ConfigsAreRead → ConfigsAreLines → InputsAreReadBack → NextIsConfigured
next_bank read lines back s us ask c none =
    is_bank read lines back (next_settings s us ask) (next_configured s (balances_of s us) ask
    (length-map-range_with_len (λ i. cents (bal s us (record { 0 = i }))) 0 (length s.starts) ∙ c.starts_of_all) none)
