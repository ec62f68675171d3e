-- What words do: what the call ensures that their first one picks, of the outside world before it and now.
use Rattle.std.specs.Prelude.{◌≡◌, ◌≢◌, ℕ, ◌≤◌, ◌⊎◌, List, [], ◌∷◌, true, false, Some, None, IfSome}
use Rattle.std.specs.Prelude.{Contains}
use Rattle.out_ports.specs.Ports.{Rose, Appends, AppendsFront}
use Rattle.dsd_top.specs.Commands.{request_of, command_of, notice_of, is_serve as begins_with_serve}
use Rattle.dsd_top.specs.Lines.{Says as SaysLine, SaysFront}
use Rattle.dsd_top.specs.Statuses.{IsStatus, statuses_of, IfTold, file_of, IsAnswered, IsCut, IsShown, IsShownFront}
use Rattle.dsd_top.specs.Statuses.{IsBadInput, IsOver, IsBadConfig, IsUntold, Stands}
use Rattle.dq_link.specs.Asked.{NoneFell, RestStays}
use Rattle.dsd_query.specs.Ends.{query_statuses, WasAsked, Says as SaysEnd}
use Rattle.dsd_query.specs.Queries.{AskAQuestion, IfQuery}
use Rattle.dsd_keep.specs.Endings.{IsDone, IsUndone, SaysWhy as SaysUndone}
use Rattle.dsd_keep.specs.Folds.{Leave}
use Rattle.dsd_keep.specs.Undone.{bindings_statuses}
use Rattle.dsd_keep.specs.Requests.{MakeARequest, IfRequest}
use Rattle.dsd_serve.specs.Causes.{serve_statuses, SaysWhy, SaysWhyFront}
use Rattle.dsd_config.specs.Configs.{IsBadConfigAt}
use Rattle.dsd_serve.specs.Kept.{kept_statuses, IsUnservedKept, SaysWhyKept}
use Rattle.dsd_serve.specs.Serving.{AskToServe, AskForSomething, IfServing, AskToServeKept, IfServingKept}
use Rattle.dsd_serve.specs.Serving.{AreAccepts, IsServed}
use Rattle.dsd_program.specs.Told.{World}
use Rattle.dsd_program.specs.Words.{Pick}
use Rattle.dsd_program.specs.declared.word.Word.{Word}
use Rattle.dsd_program.specs.declared.word.Word.TheVariants.{Query, Bindings, ServeKept, Main}

-- ---- `query`: what `query_words` ensures
pub record Asks (words : List (List ℕ)) (status : ℕ) (before now : World) : Type 0 where
  pub known : Contains query_statuses status
  pub bad_words : status ≡ 2 → AskAQuestion words → ⊥
  pub other_words : (AskAQuestion words → ⊥) → Contains (2 ∷ 5 ∷ []) status
  pub asked : status ≢ 2 → status ≢ 5 → IfQuery words (λ q. WasAsked q.question status before.out.held now.out.held
      before.link now.link)
  pub cut_short : status ≡ 5 → ((now.out ≡ before.out) × (now.link ≡ before.link)) ⊎ IfQuery words (λ q. WasAsked
      q.question status before.out.held now.out.held before.link now.link)
  pub place : status ≢ 2 → status ≢ 5 → status ≢ 11 → IfQuery words (λ q. now.link.address ≡ Some q.address)
  pub read_failed : status ≡ 3 → Rose before.link.heard.faults now.link.heard.faults
  pub write_failed : status ≡ 4 → Rose before.out.faults now.out.faults ⊎ Rose before.link.said.faults
      now.link.said.faults
  pub connect_failed : status ≡ 11 → Rose before.link.dial_faults now.link.dial_faults
  pub unread : now.input ≡ before.input
  pub unkept : now.keeper ≡ before.keeper
  pub unasked : status ≡ 2 → (now.out ≡ before.out) × (now.link ≡ before.link) × (now.rest ≡ before.rest)
  pub unfinished : (now.out.finishes ≡ before.out.finishes) × (now.diag.finishes ≡ before.diag.finishes)
  pub lasting : NoneFell before.link now.link before.out.faults now.out.faults
  pub stays : RestStays before.rest now.rest
  pub silent : status ≡ 0 → now.diag.held ≡ before.diag.held
  pub said : status ≢ 0 → SaysEnd AppendsFront status before.diag.held now.diag.held
  pub said_all : status ≢ 0 → (Rose before.diag.faults now.diag.faults → ⊥) → SaysEnd Appends status before.diag.held
      now.diag.held

-- ---- `bindings`: what `bindings_words` ensures
pub record Keeps (words : List (List ℕ)) (status : ℕ) (before now : World) : Type 0 where
  pub known : Contains bindings_statuses status
  pub bad_words : status ≡ 2 → MakeARequest words → ⊥
  pub other_words : (MakeARequest words → ⊥) → Contains (2 ∷ 5 ∷ []) status
  pub cause : status ≢ 0 → IsUndone words before.keeper.kept status
  pub keeper_failed : status ≡ 15 → Rose before.keeper.faults now.keeper.faults
  pub write_failed : status ≡ 4 → Rose before.out.faults now.out.faults
  pub done : status ≡ 0 → IfRequest words (λ w. IsDone Appends w.action before.keeper.kept before.out.held
      now.out.held)
  pub cut : status ≡ 4 → IfRequest words (λ w. IsDone AppendsFront w.action before.keeper.kept before.out.held
      now.out.held)
  pub unwritten : status ≢ 0 → status ≢ 4 → now.out.held ≡ before.out.held
  pub left : Leave words status before.keeper.kept now.keeper.kept
  pub place : status ≢ 2 → status ≢ 5 → status ≢ 15 → IfRequest words (λ w. now.keeper.file ≡ Some w.file)
  pub unread : now.input ≡ before.input
  pub unhosted : (now.link ≡ before.link) × (now.rest ≡ before.rest)
  pub unasked : status ≡ 2 → (now.out ≡ before.out) × (now.keeper ≡ before.keeper)
  pub unfinished : (now.out.finishes ≡ before.out.finishes) × (now.diag.finishes ≡ before.diag.finishes)
  pub lasting : before.keeper.faults ≤ now.keeper.faults
  pub silent : status ≡ 0 → now.diag.held ≡ before.diag.held
  pub said : status ≢ 0 → SaysUndone AppendsFront words before.keeper.kept status before.diag.held now.diag.held
  pub said_all : status ≢ 0 → (Rose before.diag.faults now.diag.faults → ⊥) → SaysUndone Appends words
      before.keeper.kept status before.diag.held now.diag.held

-- ---- `serve-kept`: what `serve_kept_words` ensures
pub record ServesKept (words : List (List ℕ)) (status : ℕ) (before now : World) : Type 0 where
  pub known : Contains kept_statuses status
  pub bad_words : status ≡ 2 → AskToServeKept words → ⊥
  pub other_words : (AskToServeKept words → ⊥) → status ≡ 2
  pub cause : status ≢ 0 → IsUnservedKept words before.keeper.kept status
  pub keeper_failed : status ≡ 15 → Rose before.keeper.faults now.keeper.faults
  pub listen_failed : status ≡ 8 → Rose before.rest.port_faults now.rest.port_faults
  pub write_failed : status ≡ 4 → Rose before.out.faults now.out.faults
  pub served : status ≡ 0 → IfServingKept words (λ s. IsServed Appends (λ a f. AreAccepts s.connections a f
      before.rest.gave now.rest.gave before.rest.stops now.rest.stops before.rest.accept_faults now.rest.accept_faults)
      before.out.held now.out.held)
  pub served_front : status ≡ 4 → IfServingKept words (λ s. IsServed AppendsFront (λ a f. AreAccepts s.connections a f
      before.rest.gave now.rest.gave before.rest.stops now.rest.stops before.rest.accept_faults now.rest.accept_faults)
      before.out.held now.out.held)
  pub place : Contains (0 ∷ 4 ∷ []) status → IfServingKept words (λ s. (now.rest.address ≡ Some s.address) ×
      (now.keeper.file ≡ Some s.file))
  pub unread : now.input ≡ before.input
  pub unasked : status ≡ 2 → (now.link ≡ before.link) × (now.rest ≡ before.rest) × (now.keeper ≡ before.keeper)
  pub unopened : status ≢ 0 → status ≢ 4 → status ≢ 5 → (now.rest.address ≡ before.rest.address) × (now.rest.gave ≡
      before.rest.gave) × (now.rest.stops ≡ before.rest.stops)
  pub same_files : now.rest.files ≡ before.rest.files
  pub same_kept : now.keeper.kept ≡ before.keeper.kept
  pub lasting : (before.rest.file_faults ≤ now.rest.file_faults) × (before.rest.port_faults ≤ now.rest.port_faults) ×
      (before.rest.accept_faults ≤ now.rest.accept_faults) × (before.keeper.faults ≤ now.keeper.faults)
  pub unwritten : status ≢ 0 → status ≢ 4 → now.out.held ≡ before.out.held
  pub unfinished : (now.out.finishes ≡ before.out.finishes) × (now.diag.finishes ≡ before.diag.finishes)
  pub silent : status ≡ 0 → now.diag.held ≡ before.diag.held
  pub said : status ≢ 0 → SaysWhyKept AppendsFront words before.keeper.kept status before.diag.held now.diag.held
  pub said_all : status ≢ 0 → (Rose before.diag.faults now.diag.faults → ⊥) → SaysWhyKept Appends words
      before.keeper.kept status before.diag.held now.diag.held

-- ---- all other words: what `dsd_main` ensures
pub record Runs (words : List (List ℕ)) (status : ℕ) (before now : World) : Type 0 where
  pub known : IsStatus status ⊎ (status ≡ 8)
  pub of_request : begins_with_serve words ≡ false → Contains (statuses_of (request_of words)) status
  pub of_serving : begins_with_serve words ≡ true → Contains serve_statuses status
  pub bad_words : status ≡ 2 → AskForSomething words → ⊥
  pub other_words : (AskForSomething words → ⊥) → Contains (2 ∷ 5 ∷ []) status
  pub done : status ≡ 0 → IfTold (command_of words) before.input.left (λ c bytes. IsAnswered before.rest.files c bytes
      before.out.held now.out.held)
  pub bad_input : status ≡ 1 → IfTold (command_of words) before.input.left (IsBadInput before.rest.files)
  pub limit : status ≡ 6 → IfTold (command_of words) before.input.left (IsOver before.rest.files)
  pub bad_config : status ≡ 7 → IfTold (command_of words) before.input.left (IsBadConfig before.rest.files)
  pub read_failed : status ≡ 3 → Rose before.input.faults now.input.faults ⊎ (((file_of (command_of words) ≢ None) ⊎
      AskToServe words) × (now.input ≡ before.input) × Rose before.rest.file_faults now.rest.file_faults)
  pub write_failed : status ≡ 4 → Rose before.out.faults now.out.faults
  pub ended : status ≢ 3 → status ≢ 5 → (status ≡ 7 → file_of (command_of words) ≡ None) → IfSome (command_of words)
      (λ c. now.input.ended ≡ true)
  pub unread : command_of words ≡ None → now.input ≡ before.input
  pub unread_yet : status ≡ 7 → file_of (command_of words) ≢ None → now.input ≡ before.input
  pub shown : status ≡ 0 → IfSome (notice_of words) (λ n. IsShown n before.out.held now.out.held)
  pub shown_front : status ≡ 4 → IfSome (notice_of words) (λ n. IsShownFront n before.out.held now.out.held)
  pub untold : status ≢ 0 → IfSome (notice_of words) (IsUntold status)
  pub served : status ≡ 0 → IfServing words (λ s. IsServed Appends (λ a f. AreAccepts s.connections a f
      before.rest.gave now.rest.gave before.rest.stops now.rest.stops before.rest.accept_faults now.rest.accept_faults)
      before.out.held now.out.held)
  pub served_front : status ≡ 4 → IfServing words (λ s. IsServed AppendsFront (λ a f. AreAccepts s.connections a f
      before.rest.gave now.rest.gave before.rest.stops now.rest.stops before.rest.accept_faults now.rest.accept_faults)
      before.out.held now.out.held)
  pub place : Contains (0 ∷ 4 ∷ []) status → IfServing words (λ s. now.rest.address ≡ Some s.address)
  pub bad_server : status ≡ 7 → IfServing words (λ s. (n : _) × IsBadConfigAt before.rest.files s.file n)
  pub listen_failed : status ≡ 8 → AskToServe words × Rose before.rest.port_faults now.rest.port_faults
  pub unopened : begins_with_serve words ≡ true → status ≢ 0 → status ≢ 4 → status ≢ 5 → (now.rest.address ≡
      before.rest.address) × (now.rest.gave ≡ before.rest.gave) × (now.rest.stops ≡ before.rest.stops)
  pub cut : status ≡ 4 → IfTold (command_of words) before.input.left (λ c bytes. IsCut before.rest.files c bytes
      before.out.held now.out.held)
  pub unwritten : status ≢ 0 → status ≢ 4 → now.out.held ≡ before.out.held
  pub unfinished : (now.out.finishes ≡ before.out.finishes) × (now.diag.finishes ≡ before.diag.finishes)
  pub unasked : begins_with_serve words ≡ false → file_of (command_of words) ≡ None → (now.link ≡ before.link) ×
      (now.rest ≡ before.rest)
  pub same_host : begins_with_serve words ≡ false → (now.rest.address ≡ before.rest.address) × (now.rest.gave ≡
      before.rest.gave) × (now.rest.stops ≡ before.rest.stops)
  pub same_files : now.rest.files ≡ before.rest.files
  pub unkept : now.keeper ≡ before.keeper
  pub lasting : (before.rest.file_faults ≤ now.rest.file_faults) × (before.rest.port_faults ≤ now.rest.port_faults) ×
      (before.rest.accept_faults ≤ now.rest.accept_faults)
  pub silent : status ≡ 0 → now.diag.held ≡ before.diag.held
  pub said : begins_with_serve words ≡ false → status ≢ 0 → SaysFront (Stands (request_of words) before.rest.files
      before.input.left) status before.diag.held now.diag.held
  pub said_all : begins_with_serve words ≡ false → status ≢ 0 → (Rose before.diag.faults now.diag.faults → ⊥) → SaysLine
      (Stands (request_of words) before.rest.files before.input.left) status before.diag.held now.diag.held
  pub said_why : begins_with_serve words ≡ true → status ≢ 0 → SaysWhyFront words before.rest.files status
      before.diag.held now.diag.held
  pub said_all_why : begins_with_serve words ≡ true → status ≢ 0 → (Rose before.diag.faults now.diag.faults → ⊥) →
      SaysWhy words before.rest.files status before.diag.held now.diag.held

-- ---- which of them

-- what the call of a word ensures
abbrev pub DoesBy : Word → List (List ℕ) → ℕ → World → World → Type 0
DoesBy Query words status before now = Asks words status before now
DoesBy Bindings words status before now = Keeps words status before now
DoesBy ServeKept words status before now = ServesKept words status before now
DoesBy Main words status before now = Runs words status before now

-- what the call ensures that the first word picks
abbrev pub Does : List (List ℕ) → ℕ → World → World → Type 0
Does words status before now = (w : Word) × Pick words w × DoesBy w words status before now
