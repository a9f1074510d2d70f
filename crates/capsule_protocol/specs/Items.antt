-- Items of RFC 8941 (Structured Field Values), rule by rule as in its ABNF.
use Rattle.capsule_protocol.specs.Rules.{Rule, one, every, up_to, ◌or◌, optional, ◌then◌, many}
use Rattle.capsule_protocol.specs.Bytes.{is, is_space, is_digit, is_key_start, is_key_byte, is_unescaped, is_escapable, is_token_start, is_token_byte, is_base64, is_bit}

-- ---- the six kinds of bare items

-- section 3.3.1: perhaps `-`, then 1 to 15 digits
unfoldable pub sf_integer : Rule
sf_integer = optional (one (is 0x2d)) then up_to 15 is_digit

-- section 3.3.2: perhaps `-`, 1 to 12 digits, `.`, 1 to 3 digits
unfoldable pub sf_decimal : Rule
sf_decimal = optional (one (is 0x2d)) then up_to 12 is_digit then one (is 0x2e) then up_to 3 is_digit

-- section 3.3.3: one character of a string, as it is or after a `\`
unfoldable pub chr : Rule
chr = one is_unescaped or (one (is 0x5c) then one is_escapable)

-- section 3.3.3: characters between two `"`
unfoldable pub sf_string : Rule
sf_string = one (is 0x22) then many chr then one (is 0x22)

-- section 3.3.4
unfoldable pub sf_token : Rule
sf_token = one is_token_start then every is_token_byte

-- section 3.3.5: between two `:`. Which lengths and which places of `=` make sense is not asked (document 02, request 5: house)
unfoldable pub sf_binary : Rule
sf_binary = one (is 0x3a) then every is_base64 then one (is 0x3a)

-- section 3.3.6: `?0` or `?1`
unfoldable pub sf_boolean : Rule
sf_boolean = one (is 0x3f) then one is_bit

unfoldable pub bare_item : Rule
bare_item = sf_integer or sf_decimal or sf_string or sf_token or sf_binary or sf_boolean

-- ---- section 3.1.2: parameters

unfoldable pub key : Rule
key = one is_key_start then every is_key_byte

-- a key, and perhaps `=` and a bare item
unfoldable pub parameter : Rule
parameter = key then optional (one (is 0x3d) then bare_item)

-- any number of parameters, each after `;` and perhaps spaces
unfoldable pub parameters : Rule
parameters = many (one (is 0x3b) then every is_space then parameter)

-- ---- section 3.3: items

-- a bare item and its parameters
unfoldable pub sf_item : Rule
sf_item = bare_item then parameters

-- an item that is the Boolean true
unfoldable pub true_item : Rule
true_item = one (is 0x3f) then one (is 0x31) then parameters
