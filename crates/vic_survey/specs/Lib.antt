pub mod Names
pub mod Parts
pub mod Surveys
pub mod SurveyText
pub mod SurveyReading
pub mod Making
pub mod inner
