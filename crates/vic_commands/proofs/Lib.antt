mod SurveyLaws
mod Outputs
mod TextsSoFar
mod CollectedLaws
mod CompleteLaws
