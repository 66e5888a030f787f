-- The numbers of a command are in their ranges.
use Rattle.std.proofs.Common.{◌≡◌, subst, refl, ℕ, ◌<◌, ◌≤◌, ◌^◌, arith, Bool, true, false, List, [], ◌∷◌, length, Option, None, Some}
use Rattle.std.specs.Prelude.{not, ◌&&◌, if◌then◌else◌, nat_lt, nat_le, int_le, is_none, pos, ℤ, negsuc}
use Rattle.std.specs.Str.{bytes_eq}
use Rattle.std.specs.List.{list_all}
use Rattle.std.specs.Char.{is_ascii_digit}
use lib.Chars.{codes}
use Rattle.grid_num.specs.Spelling.{number}
use Rattle.board_text.specs.Items.{size_of}
use Rattle.board_text.specs.Numbers.{length_fault, length_of}
use Rattle.board_language.specs.Clearances.{IsClearance, AreSoundRules}
use Rattle.run_rules.specs.declared.words.Flag.TheVariants.{Threads, Clearance, EdgeClearance}
use Rattle.run_rules.specs.declared.words.UsageFault.TheVariants as fault
use Rattle.run_rules.specs.declared.words.Command.{Command}
use Rattle.run_rules.specs.declared.words.Command.TheVariants.{Report, Generate}
use Rattle.run_rules.specs.Words.{GivenWord, Settings, Given, Wanted, IsWorkerCount, IsCommandInRange, is_number, is_clearance, is_seed, is_size, has_flag, value_of, has_threads, has_lengths, threads_in, rules_in, default_rules, checked, fill_wanted, refill_of, report_of, generate_of, command_of, has_any_flag, wanted_as, given_by, wanted}
use Rattle.run_rules.specs.Words.Wanted.{Wrong, Run}
use Rattle.run_rules.specs.Laws.{RangeLaw}

-- ---- tests

both : (a b : Bool) → (a && b) ≡ true → (a ≡ true) × (b ≡ true)
both true true e = (refl, refl)
both true false e = absurd (cc e)
both false b e = absurd (cc e)

bounded : (least n most : ℕ) → nat_le least n ≡ true → nat_le n most ≡ true → (least ≤ n) × (n ≤ most)
bounded least n most l m = (grind (arith, l), grind (arith, m))

within : (digits least most : ℕ) (word : GivenWord) → is_number digits least most word ≡ true → (least ≤ number word) × (number word ≤ most)
within digits least most word e =
    let parts : ((list_all is_ascii_digit word && (nat_lt 0 (length word) && nat_le (length word) digits)) ≡ true) × ((nat_le least (number word) && nat_le (number word) most) ≡ true) = both _ _ e in
    let ends : (nat_le least (number word) ≡ true) × (nat_le (number word) most ≡ true) = both (nat_le least (number word)) (nat_le (number word) most) parts.1 in
    bounded least (number word) most ends.0 ends.1

small : (z : ℤ) → int_le (pos 2) z ≡ true → int_le z (pos 100000000) ≡ true → IsClearance (size_of z)
small (pos n) l m = record { least = grind (arith, l); most = grind (arith, m) }
small (negsuc n) l m = absurd (grind (arith, l))

clearance : (word : GivenWord) → is_clearance word ≡ true → IsClearance (size_of (length_of word))
clearance word e =
    let parts : (is_none (length_fault word) ≡ true) × ((int_le (pos 2) (length_of word) && int_le (length_of word) (pos 100000000)) ≡ true) = both _ _ e in
    let ends = both (int_le (pos 2) (length_of word)) (int_le (length_of word) (pos 100000000)) parts.1 in
    small (length_of word) ends.0 ends.1

sound : (settings : Settings) → has_lengths settings ≡ true → AreSoundRules (rules_in settings)
sound settings e =
    let lengths = both (is_clearance (value_of Clearance settings)) (is_clearance (value_of EdgeClearance settings)) e in
    record { floor = clearance (value_of Clearance settings) lengths.0; edge = clearance (value_of EdgeClearance settings) lengths.1 }

workers : (settings : Settings) → has_threads settings ≡ true → IsWorkerCount (threads_in settings)
workers settings e = within 9 1 64 (value_of Threads settings) e

-- ---- what is wanted

IsRight : Wanted → Type 0
IsRight (Wrong fault) = Unit {0}
IsRight (Run command) = IsCommandInRange command

-- one of two
either : (b : Bool) (w v : Wanted) → (b ≡ true → IsRight w) → (b ≡ false → IsRight v) → IsRight (if b then w else v)
either true w v h k = h refl
either false w v h k = k refl

not_true : (b : Bool) → not b ≡ false → b ≡ true
not_true true e = refl
not_true false e = absurd (cc e)

wrong : (fault : Rattle.run_rules.specs.declared.words.UsageFault.UsageFault) → IsRight (Wrong fault)
unfolding IsRight
wrong fault = tt

right : (command : Command) → IsCommandInRange command → IsRight (Run command)
unfolding IsRight
right command h = h

-- where the values are right, the command is
in_checked : (settings : Settings) (distinct : Bool) (command : Command) → (IsWorkerCount (threads_in settings) → AreSoundRules (rules_in settings) → IsCommandInRange command)
    → IsRight (checked settings distinct command)
in_checked settings distinct command h =
    either (not (has_threads settings)) _ _ (λ e. wrong fault.Threads) (λ t.
    either (not (has_lengths settings)) _ _ (λ e. wrong fault.Length) (λ l.
    either (not distinct) _ _ (λ e. wrong fault.SameName) (λ e.
    right command (h (workers settings (not_true (has_threads settings) t)) (sound settings (not_true (has_lengths settings) l))))))

in_fill : (names : List GivenWord) (settings : Settings) → IsRight (fill_wanted names settings)
in_fill [] settings = wrong fault.Words
in_fill (a ∷ []) settings = wrong fault.Words
in_fill (a ∷ b ∷ []) settings = in_checked settings _ _ (λ t r. (t, r))
in_fill (a ∷ b ∷ c ∷ names) settings = wrong fault.Words

in_refill : (names : List GivenWord) (settings : Settings) → IsRight (refill_of names settings)
in_refill [] settings = wrong fault.Words
in_refill (a ∷ []) settings = wrong fault.Words
in_refill (a ∷ b ∷ []) settings = wrong fault.Words
in_refill (a ∷ b ∷ c ∷ []) settings = in_checked settings _ _ (λ t r. (t, r))
in_refill (a ∷ b ∷ c ∷ d ∷ names) settings = wrong fault.Words

in_report : (names : List GivenWord) (settings : Settings) → IsRight (report_of names settings)
in_report [] settings = wrong fault.Words
in_report (a ∷ []) settings = either (has_flag Threads settings) _ _ (λ e. wrong fault.Words) (λ e. in_checked settings true (Report a (rules_in settings)) (λ t r. r))
in_report (a ∷ b ∷ names) settings = wrong fault.Words

in_generate : (names : List GivenWord) (settings : Settings) → IsRight (generate_of names settings)
in_generate [] settings = wrong fault.Words
in_generate (a ∷ []) settings = wrong fault.Words
in_generate (a ∷ b ∷ []) settings = wrong fault.Words
in_generate (a ∷ b ∷ c ∷ []) settings =
    either (has_any_flag settings) _ _ (λ e. wrong fault.Words) (λ e.
    either (not (is_seed a)) _ _ (λ e. wrong fault.Seed) (λ s.
    either (not (is_size b)) _ _ (λ e. wrong fault.Size) (λ n.
    right (Generate (number a) (number b) c) (seed_below (number a) (within 20 0 _ a (not_true (is_seed a) s)).1, within 9 1 200 b (not_true (is_size b) n)))))
  where
    seed_below : (n : ℕ) → n ≤ 18446744073709551615 → n < 2 ^ 64
    seed_below n l = omega (arith, l)
in_generate (a ∷ b ∷ c ∷ d ∷ names) settings = wrong fault.Words

in_command : (command : GivenWord) (names : List GivenWord) (settings : Settings) → IsRight (command_of command names settings)
in_command command names settings =
    either (bytes_eq command (codes "fill")) _ _ (λ e. in_fill names settings) (λ e.
    either (bytes_eq command (codes "refill")) _ _ (λ e. in_refill names settings) (λ e.
    either (bytes_eq command (codes "report")) _ _ (λ e. in_report names settings) (λ e.
    either (bytes_eq command (codes "generate")) _ _ (λ e. in_generate names settings) (λ e. wrong fault.Words))))

in_words : (command : GivenWord) (given : Option Given) → IsRight (wanted_as command given)
in_words command None = wrong fault.Words
in_words command (Some g) = in_command command g.names g.settings

all_right : (words : List GivenWord) → IsRight (wanted words)
unfolding wanted
all_right [] = wrong fault.Words
all_right (command ∷ words) = in_words command (given_by words)

usual : AreSoundRules default_rules
unfolding length_fault length_of
usual = record { floor = record { least = omega arith; most = omega arith }; edge = record { least = omega arith; most = omega arith } }

pub range_law : RangeLaw
unfolding IsRight
range_law = record { command = λ words command e. subst IsRight e (all_right words); usual = usual }
