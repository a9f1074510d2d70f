-- Messages that use the Capsule Protocol.
use Rattle.std.specs.Prelude.{ℕ, Bool, true, ◌||◌, ◌&&◌, leb, eqb}
use Rattle.http_messages.specs.declared.messages.Message.{Message}
use Rattle.http_messages.specs.declared.messages.Message.TheVariants.{Request, Response}

-- RFC 9297, section 3.2: a message must carry neither Content-Length nor Content-Type nor Transfer-Encoding
unfoldable pub request_malformed : Bool → Bool → Bool → Bool
request_malformed content_length content_type transfer_encoding = content_length || content_type || transfer_encoding

-- RFC 9297, section 3.2: No Content, Reset Content and Partial Content must not be sent
abbrev pub status_malformed : ℕ → Bool
status_malformed status = eqb status 204 || eqb status 205 || eqb status 206

unfoldable pub response_malformed : ℕ → Bool → Bool → Bool → Bool
response_malformed status content_length content_type transfer_encoding =
    status_malformed status || request_malformed content_length content_type transfer_encoding

-- RFC 9297, section 3.4: the Capsule-Protocol field counts on requests, and on responses with 101 or 200 to 299
unfoldable pub field_counts : Message → Bool
field_counts Request = true
field_counts (Response status) = eqb status 101 || (leb 200 status && leb status 299)
