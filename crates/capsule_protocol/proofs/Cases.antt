-- The cases, computed; those of whole values by the stages that they run through. Assumes nothing.
use Rattle.std.specs.Prelude.{Ok, Err}
use Rattle.std.specs.Prelude.{true, false}
use Rattle.walks.proofs.Words.{◌≡◌, refl, ap, cond, ℕ, List, map, leb, length}
use Rattle.capsule_protocol.proofs.Terms.{Rule, empty, one, every, up_to, ◌then◌, ◌then_many◌, is_lower, is_alpha, is_digit, is_key_start, is_key_byte, is_unescaped, is_escapable, is_token_start, is_token_byte, is_base64, is_bit, sf_integer, sf_decimal, chr, sf_string, sf_token, sf_binary, sf_boolean, bare_item, key, in_use, field_of, at, Front, may_end, may_end_at, next_at, at_if, within, one_more, after_item, after_digits, first_of_bare_item, Classes, Kinds, Cases, values_in_use, values_absent, long_values, text, field_too_long}
use Rattle.capsule_protocol.proofs.Runs.{run, in_use_run}

kinds : Kinds
unfolding text empty one every up_to ◌then◌ ◌then_many◌ is_lower is_alpha is_digit is_key_start is_key_byte is_unescaped is_escapable is_token_start is_token_byte is_base64 is_bit sf_integer sf_decimal chr sf_string sf_token sf_binary sf_boolean bare_item key
kinds = record { integers = refl; no_integers = refl; decimals = refl; no_decimals = refl; strings = refl; no_strings = refl; tokens = refl; no_tokens = refl; byte_sequences = refl; no_byte_sequences = refl; booleans = refl; no_booleans = refl; bare_items = refl; no_bare_items = refl; keys = refl; no_keys = refl }

classes : Classes
unfolding text is_lower is_alpha is_digit is_key_start is_key_byte is_unescaped is_escapable is_token_start is_token_byte is_base64 is_bit
classes = record { digit = refl; key_start = refl; key_byte = refl; unescaped = refl; escapable = refl; token_start = refl; token_byte = refl; base64 = refl; bit = refl }

-- byte by byte
read : Rule
read s = may_end (run (at Front) s)

read_so : (l : List (List ℕ)) → map in_use l ≡ map read l
unfolding read
read_so l = ap (λ (x : Rule). map x l) (λ i s. in_use_run s i)

pub cases : Cases
unfolding read run text may_end_at next_at at_if within one_more after_item after_digits first_of_bare_item is_lower is_alpha is_digit is_key_start is_key_byte is_unescaped is_escapable is_token_start is_token_byte is_base64 is_bit field_of
cases = record {
  classes = classes;
  kinds = kinds;
  used = read_so values_in_use;
  absent = read_so values_absent;
  lengths = ap (λ (x : Rule). map (λ (s : List ℕ). cond (leb (length s) 1024) (cond (x s) (Ok true) (Ok false)) (Err field_too_long)) long_values) (λ i s. in_use_run s i);
}
