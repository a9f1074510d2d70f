-- Cases of RFC 8941's kinds at their borders, and those of document 02's request 5; of classes, every byte. One statement carries
-- them: `Cases`, proved in proofs/Cases.antt.
use Rattle.std.specs.Prelude.{ℕ, zero, suc, ◌+◌, ◌≡◌, true, false, cond, List, [], ◌∷◌, map, replicate, Ok, Err}
use Rattle.refusals.specs.Numbers.{field_too_long}
use Rattle.text_bytes.specs.Text.{text}
use Rattle.capsule_protocol.specs.Rules.{Rule, Class}
use Rattle.capsule_protocol.specs.Bytes.{is_digit, is_key_start, is_key_byte, is_unescaped, is_escapable, is_token_start, is_token_byte, is_base64, is_bit}
use Rattle.capsule_protocol.specs.Items.{sf_integer, sf_decimal, sf_string, sf_token, sf_binary, sf_boolean, bare_item, key}
use Rattle.capsule_protocol.specs.Field.{in_use, field_of}

abbrev pub Accepts : Rule → List (List ℕ) → Type 0
Accepts x l = map x l ≡ map (λ (s : List ℕ). true) l

abbrev pub Rejects : Rule → List (List ℕ) → Type 0
Rejects x l = map x l ≡ map (λ (s : List ℕ). false) l

-- ---- which of all bytes a class has, in their order

abbrev bytes_from : ℕ → ℕ → List ℕ
bytes_from zero b = []
bytes_from (suc n) b = b ∷ bytes_from n (b + 1)

abbrev chosen : Class → List ℕ → List ℕ
chosen p [] = []
chosen p (b ∷ l) = cond (p b) (b ∷ chosen p l) (chosen p l)

abbrev pub Has : Class → List ℕ → Type 0
Has p l = chosen p (bytes_from 256 0) ≡ l

pub record Classes : Type 0 where
  pub digit : Has is_digit (text "0123456789")
  pub key_start : Has is_key_start (text "*abcdefghijklmnopqrstuvwxyz")
  pub key_byte : Has is_key_byte (text "*-.0123456789_abcdefghijklmnopqrstuvwxyz")
  pub unescaped : Has is_unescaped (text " !#$%&'()*+,-./0123456789:;<=>?@ABCDEFGHIJKLMNOPQRSTUVWXYZ[]^_`abcdefghijklmnopqrstuvwxyz{|}~")
  pub escapable : Has is_escapable (text "\"\\")
  pub token_start : Has is_token_start (text "*ABCDEFGHIJKLMNOPQRSTUVWXYZabcdefghijklmnopqrstuvwxyz")
  pub token_byte : Has is_token_byte (text "!#$%&'*+-./0123456789:ABCDEFGHIJKLMNOPQRSTUVWXYZ^_`abcdefghijklmnopqrstuvwxyz|~")
  pub base64 : Has is_base64 (text "+/0123456789=ABCDEFGHIJKLMNOPQRSTUVWXYZabcdefghijklmnopqrstuvwxyz")
  pub bit : Has is_bit (text "01")

-- ---- bare items and keys

pub record Kinds : Type 0 where
  -- up to 15 digits, zeros too
  pub integers :
      Accepts sf_integer
      (text "0" ∷ text "-0" ∷ text "42" ∷ text "-42" ∷ text "999999999999999" ∷ text "-999999999999999" ∷ text "000000000000000" ∷ [])
  -- 16 digits, no digit, other signs, what comes after
  pub no_integers :
      Rejects sf_integer
      (text "" ∷ text "-" ∷ text "--1" ∷ text "+1" ∷ text "1000000000000000" ∷ text "-1000000000000000" ∷ text "0000000000000000" ∷
      text "1.0" ∷ text "1 " ∷ text " 1" ∷ text "- 1" ∷ text "1a" ∷ [])
  -- up to 12 digits, and up to 3 after the point
  pub decimals :
      Accepts sf_decimal
      (text "0.0" ∷ text "-0.5" ∷ text "1.50" ∷ text "123456789012.345" ∷ text "-123456789012.345" ∷ text "000000000000.000" ∷ [])
  -- 13 digits, 4 after the point, none at either side
  pub no_decimals :
      Rejects sf_decimal
      (text "" ∷ text "1" ∷ text "1." ∷ text ".5" ∷ text "-.5" ∷ text "1.2345" ∷ text "1234567890123.1" ∷ text "0000000000000.0" ∷
      text "1..2" ∷ text "1.2.3" ∷ text "1.-2" ∷ text "1.5 " ∷ text " 1.5" ∷ text "+1.5" ∷ text "--1.5" ∷ text "- 1.5" ∷ text "1 .5" ∷
      text "1. 5" ∷ [])
  -- escapes
  pub strings :
      Accepts sf_string
      (text "\"\"" ∷ text "\" \"" ∷ text "\"x~!#[]\"" ∷ text "\"\\\\\"" ∷ text "\"\\\"\"" ∷ text "\"a\\\"b\\\\c\"" ∷ [])
  -- unclosed, other escapes, bytes outside 0x20 to 0x7e
  pub no_strings :
      Rejects sf_string
      (text "" ∷ text "\"" ∷ text "\"x" ∷ text "x\"" ∷ text "\"\"\"" ∷ text "\"\\\"" ∷ text "\"\\a\"" ∷ text "\"\\" ∷ text "\"x\"y" ∷
      (0x22 ∷ 0x1f ∷ 0x22 ∷ []) ∷ (0x22 ∷ 0x7f ∷ 0x22 ∷ []) ∷ (0x22 ∷ 0x80 ∷ 0x22 ∷ []) ∷ [])
  -- every byte that is no letter or digit
  pub tokens :
      Accepts sf_token
      (text "a" ∷ text "Z" ∷ text "*" ∷ text "a:b/c" ∷ text "t!#$%&'*+-.^_`|~09azAZ:/" ∷ [])
  pub no_tokens :
      Rejects sf_token
      (text "" ∷ text "1a" ∷ text "-a" ∷ text ":a" ∷ text "!a" ∷ text "_a" ∷ text "a b" ∷ text "a\"" ∷ text "a," ∷ text "a;" ∷ text "a=" ∷
      text "a(" ∷ text "a@" ∷ text "a?" ∷ [])
  -- empty, and any place of `=`
  pub byte_sequences :
      Accepts sf_binary
      (text "::" ∷ text ":=:" ∷ text ":Z:" ∷ text ":ZZZZZ:" ∷ text ":Zg==:" ∷ text ":=Z=g:" ∷ text ":+/09azAZ:" ∷ [])
  pub no_byte_sequences :
      Rejects sf_binary
      (text "" ∷ text ":" ∷ text ":Zg" ∷ text "Zg:" ∷ text ":-_:" ∷ text ": :" ∷ text ":::" ∷ text ":Z:g" ∷ [])
  pub booleans :
      Accepts sf_boolean
      (text "?0" ∷ text "?1" ∷ [])
  pub no_booleans :
      Rejects sf_boolean
      (text "" ∷ text "?" ∷ text "?2" ∷ text "?10" ∷ text "1" ∷ text "?t" ∷ text "?true" ∷ [])
  -- one of each kind
  pub bare_items :
      Accepts bare_item
      (text "-7" ∷ text "1.5" ∷ text "\"x\"" ∷ text "*t" ∷ text ":Zg:" ∷ text "?0" ∷ [])
  -- inner lists; items of RFC 9651; two items
  pub no_bare_items :
      Rejects bare_item
      (text "" ∷ text "(1)" ∷ text "()" ∷ text "@1" ∷ text "%\"x\"" ∷ text "a b" ∷ text "1,2" ∷ text "1;a" ∷ [])
  pub keys :
      Accepts key
      (text "a" ∷ text "z" ∷ text "*" ∷ text "a0_-.*z9" ∷ [])
  -- upper case, and what is no first byte
  pub no_keys :
      Rejects key
      (text "" ∷ text "A" ∷ text "aB" ∷ text "1" ∷ text "_a" ∷ text "-a" ∷ text ".a" ∷ text "a b" ∷ text "a=" ∷ text "a:" ∷ text "a/" ∷ [])

-- ---- values, as document 02 and its readings have them
abbrev pub values_in_use : List (List ℕ)
values_in_use =
    (text "?1" ∷ text "?1;v=2" ∷ text "?1;   v" ∷ text " ?1;v=1; w=2 " ∷ text "?1;*a.b-c_d*9" ∷ text "?1;a=1;a=\"x\"" ∷ text "?1;v=-0" ∷
    text "?1;v=123456789012345" ∷ text "?1;v=123456789012.999" ∷ text "?1;v=\"\\\\\"" ∷ text "?1;v=::" ∷ text "?1;v=:=:" ∷
    text "?1;a=?0;b=:Zg:;c=\"x\\\"\";d=*t;e=-1.5" ∷ text "?1;a;b;c" ∷ text "?1;a=\",;=\";b" ∷ text "?1;a=?1" ∷ [])

abbrev pub values_absent : List (List ℕ)
values_absent =
    (text "" ∷ text "?0" ∷ text "?0;v=2" ∷ text "?1 ;v" ∷ text "?1;" ∷ text "?1; " ∷ text "?1;v =1" ∷ text "?1;v= 1" ∷ text "?1;v=" ∷
    text "?1;V=1" ∷ text "?1;v=1234567890123456" ∷ text "?1;v=0000000000000000" ∷ text "?1;v=1234567890123.9" ∷ text "?1;v=1.9999" ∷
    text "?1;v=1." ∷ text "?1;v=\"\\a\"" ∷ text "?1;v=:Zg" ∷ text "?1;v=:-_:" ∷ text "?1,?1" ∷ text "?1;v=(1)" ∷ text "?10" ∷ text "? 1" ∷
    text "1" ∷ text "?1 ?1" ∷ text "?1;a,b" ∷ text "(?1)" ∷ text "?1;v=@1" ∷ text "?1;v=%\"x\"" ∷ text "?1;;a" ∷ text "?1;a ;b" ∷
    text "?1;a=1 ;b" ∷ text "?1;a;" ∷ text "?1;a=1;" ∷ text "?1;a;;b" ∷ text "?1;a:1" ∷ text "?1;\ta" ∷ (0x3f ∷ 0x31 ∷ 0x09 ∷ []) ∷
    (0x09 ∷ 0x3f ∷ 0x31 ∷ []) ∷ (0x3f ∷ 0x31 ∷ 0x80 ∷ []) ∷ [])

-- `?1` and 1,022 spaces, and one more; 1,024 and 1,025 bytes that are no item
abbrev pub long_values : List (List ℕ)
long_values = (0x3f ∷ 0x31 ∷ replicate 1022 0x20) ∷ (0x3f ∷ 0x31 ∷ replicate 1023 0x20) ∷ replicate 1024 0x30 ∷ replicate 1025 0x30 ∷ []

pub record Cases : Type 0 where
  pub classes : Classes
  pub kinds : Kinds
  pub used : Accepts in_use values_in_use
  pub absent : Rejects in_use values_absent
  pub lengths : map field_of long_values ≡ (Ok true) ∷ Err field_too_long ∷ (Ok false) ∷ Err field_too_long ∷ []
