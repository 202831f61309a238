-- What a client is told where a request is refused: number, name, status, and the object in the body.
use Rattle.std.specs.Prelude.{ℕ, Bool, true, List, ◌++◌, codes, None, Some}
use Rattle.std.specs.Fmt.{decimal}
use Rattle.law_http.specs.Responses.{Reply, reply}
use Rattle.law_http.specs.declared.status.Status.{Status}
use Rattle.law_http.specs.declared.status.Status.TheVariants as status
use Rattle.law_http.specs.declared.refusal.MessageRefusal.{MessageRefusal}
use Rattle.law_http.specs.declared.refusal.MessageRefusal.TheVariants.{BadHead, HeadTooLong, LengthMissing, BodyTooLong, TransferCoding, Truncated}
use Rattle.law_http.specs.declared.refusal.RequestRefusal.{RequestRefusal}
use Rattle.law_http.specs.declared.refusal.RequestRefusal.TheVariants.{NoRoute, WrongMethod, BadForm}

abbrev pub message_number : MessageRefusal → ℕ
message_number BadHead = 1
message_number HeadTooLong = 2
message_number LengthMissing = 3
message_number BodyTooLong = 4
message_number TransferCoding = 5
message_number Truncated = 9

abbrev pub message_name : MessageRefusal → List ℕ
message_name BadHead = codes "BadHead"
message_name HeadTooLong = codes "HeadTooLong"
message_name LengthMissing = codes "LengthMissing"
message_name BodyTooLong = codes "BodyTooLong"
message_name TransferCoding = codes "TransferCoding"
message_name Truncated = codes "Truncated"

abbrev pub message_status : MessageRefusal → Status
message_status BadHead = status.BadRequest
message_status HeadTooLong = status.FieldsTooLarge
message_status LengthMissing = status.LengthRequired
message_status BodyTooLong = status.ContentTooLarge
message_status TransferCoding = status.NotImplemented
message_status Truncated = status.BadRequest

-- the object that a number and a name make
abbrev pub object_text : ℕ → List ℕ → List ℕ
object_text number name = codes "{\"http\":" ++ decimal number ++ codes ",\"name\":\"" ++ name ++ codes "\"}"

-- the object of a fault of form, with the number of its rule and its place
abbrev pub form_text : ℕ → ℕ → List ℕ
form_text form place =
    codes "{\"form\":" ++ decimal form ++ codes ",\"http\":8,\"name\":\"BadForm\",\"place\":"
    ++ decimal place ++ codes "}"

-- what is said where no request can be read; the stream is closed
abbrev pub message_reply : MessageRefusal → Reply
message_reply r = reply (message_status r) None true (object_text (message_number r) (message_name r))

-- what is said where a request gets no answer of the desk
abbrev pub request_reply : RequestRefusal → Bool → Reply
request_reply NoRoute closes = reply status.NotFound None closes (object_text 6 (codes "NoRoute"))
request_reply (WrongMethod allow) closes =
    reply status.MethodNotAllowed (Some allow) closes (object_text 7 (codes "WrongMethod"))
request_reply (BadForm form place) closes = reply status.BadRequest None closes (form_text form place)
