-- What is served of a stream, whatever answers its requests.
use Rattle.std.specs.Prelude.{◌≡◌, ◌≢◌, ◌↔◌, ℕ, List, [], ◌∷◌, ◌++◌, IsTrue, Option}
use Rattle.law_http.specs.Streaming.{ArePut, EndsAs, Exchange, faults_told, requests_of, responses_of}
use Rattle.law_http.specs.declared.heard.Request.{Request}
use Rattle.law_http.specs.declared.response.Response.{Response}
use Rattle.law_http.specs.declared.streaming.Served.{Served}

-- what it is for a request to be answered by a response, where what answers goes from one state to another
module _ {S : Type 0} (answers : Request → S → S → Response → Type 0) where
  -- these requests are answered one after another, and what answers them goes from old to new
  abbrev pub AreAnswered : List Exchange → S → S → Type 0
  AreAnswered [] old new = new ≡ old
  AreAnswered (e ∷ es) old new = (mid : S) × answers e.request old mid e.response × AreAnswered es mid new

  -- what is served of a stream that had these bytes left, and has these over, and wrote behind these, where its link
  -- tells them
  pub record IsServed (left over before now : Option (List ℕ)) (old new : S) (served : Served) : Type 0 where
    -- the requests that were heard, with the responses to them
    pub exchanges : List Exchange
    -- what was said behind the last
    pub closing : List Response
    pub answered : AreAnswered exchanges old new
    pub ends : EndsAs served.end left over (requests_of exchanges) closing
    pub puts : ArePut served.end before now (responses_of exchanges ++ closing)
    pub faulted : IsTrue served.faulted ↔ (faults_told exchanges ≢ 0)
