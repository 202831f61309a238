-- What a response says, and its bytes (RFC 9112, sections 2 to 6).
use Rattle.std.specs.Prelude.{◌≡◌, ℕ, ◌⊎◌, Bool, true, false, List, [], ◌∷◌, ◌++◌, map, length, codes, Option, None, Some}
use Rattle.std.specs.Fmt.{decimal}
use Rattle.httparse.specs.Grammar.{ResponseHead, ReadsResponse, status_code}
use Rattle.httparse.specs.Spans.{name_and_value}
use Rattle.http1.specs.Fields.{Header}
use Rattle.http1.specs.Head.{response_head}
use Rattle.law_http.specs.declared.status.Status.{Status}
use Rattle.law_http.specs.declared.status.Status.TheVariants as status
use Rattle.law_http.specs.declared.status.Allow.{Allow}
use Rattle.law_http.specs.declared.status.Allow.TheVariants.{Get, Post}
use Rattle.law_http.specs.declared.response.Response.{Response}
use Rattle.law_http.specs.declared.response.Response.TheVariants.{Made, MemoryFault, KeeperFault}

-- the number and the phrase
abbrev pub status_text : Status → List ℕ
status_text status.Ok = codes "200 OK"
status_text status.Created = codes "201 Created"
status_text status.BadRequest = codes "400 Bad Request"
status_text status.NotFound = codes "404 Not Found"
status_text status.MethodNotAllowed = codes "405 Method Not Allowed"
status_text status.Conflict = codes "409 Conflict"
status_text status.LengthRequired = codes "411 Length Required"
status_text status.ContentTooLarge = codes "413 Content Too Large"
status_text status.FieldsTooLarge = codes "431 Request Header Fields Too Large"
status_text status.InternalServerError = codes "500 Internal Server Error"
status_text status.NotImplemented = codes "501 Not Implemented"
status_text status.ServiceUnavailable = codes "503 Service Unavailable"

abbrev pub status_number : Status → ℕ
status_number status.Ok = 200
status_number status.Created = 201
status_number status.BadRequest = 400
status_number status.NotFound = 404
status_number status.MethodNotAllowed = 405
status_number status.Conflict = 409
status_number status.LengthRequired = 411
status_number status.ContentTooLarge = 413
status_number status.FieldsTooLarge = 431
status_number status.InternalServerError = 500
status_number status.NotImplemented = 501
status_number status.ServiceUnavailable = 503

abbrev pub status_phrase : Status → List ℕ
status_phrase status.Ok = codes "OK"
status_phrase status.Created = codes "Created"
status_phrase status.BadRequest = codes "Bad Request"
status_phrase status.NotFound = codes "Not Found"
status_phrase status.MethodNotAllowed = codes "Method Not Allowed"
status_phrase status.Conflict = codes "Conflict"
status_phrase status.LengthRequired = codes "Length Required"
status_phrase status.ContentTooLarge = codes "Content Too Large"
status_phrase status.FieldsTooLarge = codes "Request Header Fields Too Large"
status_phrase status.InternalServerError = codes "Internal Server Error"
status_phrase status.NotImplemented = codes "Not Implemented"
status_phrase status.ServiceUnavailable = codes "Service Unavailable"

-- the field that says which method a path has
abbrev pub allow_field : Option Allow → List ℕ
allow_field None = []
allow_field (Some Get) = codes "Allow: GET\r\n"
allow_field (Some Post) = codes "Allow: POST\r\n"

-- the field that says that the stream is closed after the response
abbrev pub close_field : Bool → List ℕ
close_field true = codes "Connection: close\r\n"
close_field false = []

-- what a response says: its status, the method that the path has where the request had another, whether the stream is
-- closed after it, and its body, which is JSON
pub record Reply : Type 0 where
  pub status : Status
  pub allow : Option Allow
  pub closes : Bool
  pub body : List ℕ

abbrev pub reply : Status → Option Allow → Bool → List ℕ → Reply
reply status allow closes body = record { status = status; allow = allow; closes = closes; body = body }

-- the lines of a head that depend on more than the body
abbrev pub first_lines : Status → Option Allow → Bool → List ℕ
first_lines status allow closes =
    codes "HTTP/1.1 " ++ status_text status ++ codes "\r\n" ++ allow_field allow ++ close_field closes

-- the lines of a head that say of the body how long it is and that it is JSON, and the empty line
abbrev pub body_lines : ℕ → List ℕ
body_lines n = codes "Content-Length: " ++ decimal n ++ codes "\r\nContent-Type: application/json\r\n\r\n"

-- the bytes of a response
abbrev pub reply_bytes : Reply → List ℕ
reply_bytes r = first_lines r.status r.allow r.closes ++ body_lines (length r.body) ++ r.body

-- what is said where there was not enough memory
abbrev pub memory_fault : Reply
memory_fault = reply status.InternalServerError None true (codes "{\"fault\":\"memory\"}")

-- what is said where the keeper failed
abbrev pub keeper_fault : Bool → Reply
keeper_fault closes = reply status.ServiceUnavailable None closes (codes "{\"fault\":\"keeper\"}")

-- the bytes of what was made, or of the fixed responses
abbrev pub response_bytes : Response → List ℕ
response_bytes (Made message closes) = message
response_bytes MemoryFault = reply_bytes memory_fault
response_bytes (KeeperFault closes) = reply_bytes (keeper_fault closes)

-- the stream is closed after the response
abbrev pub is_closing : Response → Bool
is_closing (Made message closes) = closes
is_closing MemoryFault = true
is_closing (KeeperFault closes) = closes

-- the response says this, or that there was not enough memory
abbrev pub Says : Reply → Response → Type 0
Says reply response = (response ≡ Made (reply_bytes reply) reply.closes) ⊎ (response ≡ MemoryFault)

-- the same fields as names and values
abbrev pub allow_fields : Option Allow → List Header
allow_fields None = []
allow_fields (Some Get) = (codes "Allow", codes "GET") ∷ []
allow_fields (Some Post) = (codes "Allow", codes "POST") ∷ []

abbrev pub close_fields : Bool → List Header
close_fields true = (codes "Connection", codes "close") ∷ []
close_fields false = []

abbrev pub body_fields : ℕ → List Header
body_fields n = (codes "Content-Length", decimal n) ∷ (codes "Content-Type", codes "application/json") ∷ []

abbrev pub fields_of : Reply → List Header
fields_of r = allow_fields r.allow ++ (close_fields r.closes ++ body_fields (length r.body))

-- the head that a client of httparse reads: HTTP/1.1, the status, its phrase and the fields
abbrev pub head_of : Reply → ResponseHead
head_of r = response_head 1 (status_number r.status) (status_phrase r.status) (fields_of r)

-- read as a response, the bytes are that head and then the body, and the head says the status and the fields
pub record ReadsBack (r : Reply) : Type 0 where
  pub reads : ReadsResponse (reply_bytes r) (head_of r) r.body
  pub status : status_code (head_of r) ≡ status_number r.status
  pub fields : map name_and_value (head_of r).fields ≡ fields_of r
