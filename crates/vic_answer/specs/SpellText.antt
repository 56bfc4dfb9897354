-- What `spell` writes for words: the frame that `frame` describes by these words, or why there is
-- none. Words that aren't of one of the three forms are `Words`; otherwise the first value that
-- doesn't fit decides.
use Rattle.std.specs.Prelude.{ℕ, ◌^◌, ◌%◌, ◌==◌, ◌&&◌, Bool, true, false, List, [], ◌++◌, length, slice_index_or, bytes_eq, nat_le, nat_lt, codes, ok_or, Result, Ok, Err, if◌then◌else◌, ⊤}
use Rattle.hex.specs.Hex.{encode_upper}
use Rattle.vic_frame.specs.declared.mask.TheConstants.{MAX_MASK_LEN, MAX_MASK_LEN_OF_SIXTEEN}
use Rattle.vic_frame.specs.declared.request.Request.{Request}
use Rattle.vic_frame.specs.declared.request.Request.TheVariants.{Inventory, StayQuiet}
use Rattle.vic_frame.specs.Masks.{BitMask}
use Rattle.vic_frame.specs.Replies.{Reply, reply_spelling}
use Rattle.vic_frame.specs.Requests.{IsValid, request_spelling}
use Rattle.vic_frame.specs.Uids.{is_uid}
use Rattle.vic_text.specs.Values.{hex_number_in, number_in, value_in}
use Rattle.vic_answer.specs.FrameText.{reply_words, request_words}
use Rattle.vic_answer.specs.Refusals.{refused_word}
use Rattle.vic_answer.specs.declared.spell.TheConstants.{MAX_LINK}
use Rattle.vic_answer.specs.declared.spell.Frame.{Frame}
use Rattle.vic_answer.specs.declared.spell.Frame.TheVariants as frame
use Rattle.vic_answer.specs.declared.spell.SpellFault.{SpellFault}
use Rattle.vic_answer.specs.declared.spell.SpellFault.TheVariants.{Words, Range}
use Rattle.vic_answer.specs.declared.status.Status.{Status}
use Rattle.vic_answer.specs.declared.status.Status.TheVariants.{Whole, Refused}

-- the second reading, unless the first is a fault
abbrev pub and_then : {A B : Type 0}
    → Result A SpellFault → (A → Result B SpellFault) → Result B SpellFault
and_then (Ok x) f = f x
and_then (Err e) f = Err e

-- the word at an index, counted from 0; the empty word after the last
abbrev pub word : List (List ℕ) → ℕ → List ℕ
word words i = slice_index_or words i []

-- the number that a word spells in decimal, up to a maximum
abbrev pub number_up_to : ℕ → List ℕ → Result ℕ SpellFault
number_up_to most w =
    and_then (ok_or (number_in w) Words) (λ n. if nat_le n most then Ok n else Err Range)

-- the number that a word spells as `count` bytes in upper-case hex digits
abbrev pub hex_word : ℕ → List ℕ → Result ℕ SpellFault
hex_word count w = ok_or (hex_number_in count w) Words

-- one slot or sixteen
abbrev pub sixteen_in : List ℕ → Result Bool SpellFault
sixteen_in w =
    if bytes_eq w (codes "1") then Ok false
    else if bytes_eq w (codes "16") then Ok true
    else Err Words

abbrev pub longest_mask : Bool → ℕ
longest_mask sixteen = if sixteen then MAX_MASK_LEN_OF_SIXTEEN else MAX_MASK_LEN

abbrev pub mask_in : ℕ → List ℕ → Result BitMask SpellFault
mask_in len w = and_then (ok_or (value_in len w) Words)
    (λ value. if nat_lt value (2 ^ len) then Ok (record { len = len; value = value })
    else Err Range)

-- an Inventory request from its words
abbrev pub inventory_in : (link slots len value : List ℕ) → Result Request SpellFault
inventory_in link slots len value =
    and_then (number_up_to MAX_LINK link) (λ link. and_then (sixteen_in slots) (λ sixteen.
    and_then (number_up_to (longest_mask sixteen) len) (λ len. and_then (mask_in len value) (λ m.
    Ok (Inventory link sixteen m)))))

-- a Stay Quiet request from its words; it may name any number of 64 bits, also one that is no UID
abbrev pub stay_quiet_in : (link uid : List ℕ) → Result Request SpellFault
stay_quiet_in link uid =
    and_then (number_up_to MAX_LINK link) (λ link. and_then (hex_word 8 uid) (λ uid.
    Ok (StayQuiet link uid)))

-- no reply has Error_flag, or a UID that doesn't begin E0
abbrev pub reply_of : (flags dsfid uid : ℕ) → Result Reply SpellFault
reply_of flags dsfid uid =
    if flags % 2 == 0 && is_uid uid
    then Ok (record { flags = flags; dsfid = dsfid; uid = uid })
    else Err Words

-- a reply from its words
abbrev pub reply_in : (flags dsfid uid : List ℕ) → Result Reply SpellFault
reply_in flags dsfid uid =
    and_then (hex_word 1 flags) (λ flags. and_then (hex_word 1 dsfid) (λ dsfid.
    and_then (hex_word 8 uid) (λ uid. reply_of flags dsfid uid)))

-- whether these are the words of an Inventory request, a Stay Quiet request, a reply
abbrev pub says_inventory : List (List ℕ) → Bool
says_inventory words =
    length words == 9 && bytes_eq (word words 0) (codes "request")
    && bytes_eq (word words 1) (codes "inventory") && bytes_eq (word words 2) (codes "link")
    && bytes_eq (word words 4) (codes "slots") && bytes_eq (word words 6) (codes "mask")

abbrev pub says_stay_quiet : List (List ℕ) → Bool
says_stay_quiet words =
    length words == 6 && bytes_eq (word words 0) (codes "request")
    && bytes_eq (word words 1) (codes "stay-quiet") && bytes_eq (word words 2) (codes "link")
    && bytes_eq (word words 4) (codes "uid")

abbrev pub says_reply : List (List ℕ) → Bool
says_reply words =
    length words == 7 && bytes_eq (word words 0) (codes "response")
    && bytes_eq (word words 1) (codes "flags") && bytes_eq (word words 3) (codes "dsfid")
    && bytes_eq (word words 5) (codes "uid")

-- what words say, or why they aren't a frame
abbrev pub words_reading : List (List ℕ) → Result Frame SpellFault
words_reading words =
    if says_inventory words then and_then (inventory_in
    (word words 3) (word words 5) (word words 7) (word words 8)) (λ q. Ok (frame.Request q))
    else if says_stay_quiet words then and_then (stay_quiet_in
    (word words 3) (word words 5)) (λ q. Ok (frame.Request q))
    else if says_reply words then and_then (reply_in
    (word words 2) (word words 4) (word words 6)) (λ r. Ok (frame.Response r))
    else Err Words

-- a request has a frame if it is valid; each reply has one
abbrev pub IsSendable : Frame → Type 0
IsSendable (frame.Request q) = IsValid q
IsSendable (frame.Response r) = ⊤

-- the words that `frame` writes for it
abbrev pub words_of : Frame → List (List ℕ)
words_of (frame.Request q) = request_words q
words_of (frame.Response r) = reply_words r

-- the frame of what words say
abbrev pub frame_of : Frame → List ℕ
frame_of (frame.Request q) = request_spelling q
frame_of (frame.Response r) = reply_spelling r

abbrev pub spell_fault_name : SpellFault → List ℕ
spell_fault_name Words = codes "Words"
spell_fault_name Range = codes "Range"

abbrev pub spelled_text : Result Frame SpellFault → List ℕ
spelled_text (Ok what) = encode_upper (frame_of what) ++ codes "\n"
spelled_text (Err fault) = refused_word (spell_fault_name fault)

abbrev pub spelled_status : Result Frame SpellFault → Status
spelled_status (Ok what) = Whole
spelled_status (Err fault) = Refused

-- the text and the status for words
abbrev pub spell_text : List (List ℕ) → List ℕ
spell_text words = spelled_text (words_reading words)

abbrev pub spell_status : List (List ℕ) → Status
spell_status words = spelled_status (words_reading words)
