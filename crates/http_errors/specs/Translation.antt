-- Document 01, "What each error becomes on each HTTP version".
use Rattle.refusals.specs.declared.Refusal.{Refusal}
use Rattle.std.specs.Prelude.{ℕ, zero, suc, ◌-◌, cond, eqb, List, [], ◌∷◌, slice_get, Option, None, Some, Result, Ok, Err}
use Rattle.refusals.specs.Numbers.{unknown_error_or_version}
use Rattle.http_errors.specs.declared.translation.ErrorCode.{ErrorCode}
use Rattle.http_errors.specs.declared.translation.Action.{Action}
use Rattle.http_errors.specs.declared.translation.Action.TheVariants.{Close, StreamError, ConnectionError}
use Rattle.http_messages.specs.Errors.{Error, truncated, no_semantics, short_frame, quarter_too_large, beyond_limit, bad_setting, malformed}

-- HTTP/1.1, HTTP/2 and HTTP/3, numbered 1, 2 and 3
pub data Version : Type 0 where
  http1 http2 http3 : Version

-- document 01's "close", "stream" and "connection" with a code
abbrev pub code : ℕ → ErrorCode
code n = record { 0 = n }

abbrev pub close : ℕ → Option Action
close n = Some (Close (code n))

abbrev pub stream : ℕ → Option Action
stream n = Some (StreamError (code n))

abbrev pub connection : ℕ → Option Action
connection n = Some (ConnectionError (code n))

-- none: the error does not arise on this version. 0x01 is HTTP/2's PROTOCOL_ERROR (RFC 9113, section 7); 0x0108, 0x0109 and 0x010e are H3_ID_ERROR, H3_SETTINGS_ERROR and
-- H3_MESSAGE_ERROR (RFC 9114, section 8.1); 0x33 is H3_DATAGRAM_ERROR (RFC 9297, section 5.2)
unfoldable pub becomes : Error → Version → Option Action
-- an incomplete message (RFC 9297, section 3.3)
becomes truncated http1 = close 0
becomes truncated http2 = stream 0x01
becomes truncated http3 = stream 0x010e
-- RFC 9297, section 2; the code on HTTP/2 is a house rule
becomes no_semantics http1 = close 0
becomes no_semantics http2 = stream 0x01
becomes no_semantics http3 = stream 0x33
-- RFC 9297, section 2.1, of QUIC DATAGRAM frames
becomes short_frame http1 = None
becomes short_frame http2 = None
becomes short_frame http3 = connection 0x33
becomes quarter_too_large http1 = None
becomes quarter_too_large http2 = None
becomes quarter_too_large http3 = connection 0x33
becomes beyond_limit http1 = None
becomes beyond_limit http2 = None
becomes beyond_limit http3 = connection 0x0108
-- RFC 9297, section 2.1.1
becomes bad_setting http1 = None
becomes bad_setting http2 = None
becomes bad_setting http3 = connection 0x0109
-- a malformed capsule is a malformed message too (RFC 9297, section 3.3): as error 1
becomes malformed http1 = close 0
becomes malformed http2 = stream 0x01
becomes malformed http3 = stream 0x010e

-- the n-th of a list, counted from 1
unfoldable pub nth : {A : Type 0} → List A → ℕ → Option A
nth l zero = None
nth l (suc n) = slice_get l n

-- in the order of their numbers
abbrev pub errors : List Error
errors = truncated ∷ no_semantics ∷ short_frame ∷ quarter_too_large ∷ beyond_limit ∷ bad_setting ∷ malformed ∷ []

abbrev pub versions : List Version
versions = http1 ∷ http2 ∷ http3 ∷ []

-- the row of a known error in the code's table, from 0: six rows, and error 7 has that of error 1
unfoldable pub row_of : ℕ → ℕ
row_of error = cond (eqb error 7) 0 (error - 1)

unfoldable pub answer : Option Error → Option Version → Result (Option Action) Refusal
answer (Some e) (Some v) = Ok (becomes e v)
answer (Some e) None = Err unknown_error_or_version
answer None v = Err unknown_error_or_version

unfoldable pub translated : ℕ → ℕ → Result (Option Action) Refusal
translated error version = answer (nth errors error) (nth versions version)
